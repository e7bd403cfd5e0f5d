use Rattle.cube_session.proofs.Names.{is_declared, long_schema, schema_text, sym, ap, ◌∙◌, None, refl, Ok, Err, Whole, Command, line, declare_over, declared, World}
use Rattle.cube_state.proofs.Known.{declared_says, only_answers, refused_says}
use Rattle.cube_session.proofs.Declarings.{Inits, declares_as, fails_as}
use Rattle.cube_session.proofs.declaring.declare.Goals as goal

pub returns-in_default : goal.returns-in_default
returns-in_default g c = record {
  carried = λ cache ready. only_answers g.T.Site c.args.site.now c.args.state.now cache _ (Command.Schema c.args.block) (line is_declared) c.plain.result
      (λ t told files. g.met.T.Site.only_now c.args.site.now told files t) ready refl
      (declared_says g.T.Site c.args.state.now c.args.site.now c.args.block c.in_default.not-Empty) c.plain.ensures.said c.plain.ensures.memory;
}

pub returns-in_default-block : goal.returns-in_default-block
returns-in_default-block g c = record {
  carried = λ cache ready. only_answers g.T.Site c.args.site.now c.args.state.now cache _ (Command.Schema c.args.block) (line long_schema) c.plain-in_default-block.result
      (λ t told files. g.met.T.Site.only_now c.args.site.now told files t) ready refl
      (refused_says g.T.Site c.args.state.now c.args.site.now c.args.block (line long_schema) c.in-Empty.is (λ world. ap (declare_over world None) c.in_default-block.is))
      c.plain-in_default-block.ensures.said c.plain-in_default-block.ensures.memory;
}

pub returns-in_err-store-in-Ok : goal.returns-in_err-store-in-Ok
returns-in_err-store-in-Ok g c =
    let why = c.in_err-store-in-Ok.field-0.0 in
    let is : Inits g.T.Site c.in-Ok.schema c.args.site.now c.init.new.site (Err why) = assumption c.in_err-store-in-Ok.ensures in
    record {
      carried = λ cache ready. fails_as g.T.Site c.in-Ok.schema c.in-Ok.ensures.lawful c.as_bytes.result.now c.in-Ok.ensures.exact c.args.site.now c.init.new.site cache (Err why) is
          (Command.Schema c.args.block) c.args.state.now (ap Command.Schema (c.in-Whole.is ∙ ap Whole (sym c.as_bytes.ensures))) c.in-Empty.is
          why refl c.from_residual.result c.from_residual.ensures.1;
    }

pub returns-in-Ok : goal.returns-in-Ok
returns-in-Ok g c =
    let store = c.in_ok-store-in-Ok.store in
    let is : Inits g.T.Site c.in-Ok.schema c.args.site.now c.init.new.site (Ok store) = assumption c.in_ok-store-in-Ok.ensures in
    record {
      carried = λ cache ready. declares_as g.T.Site c.in-Ok.schema c.in-Ok.ensures.lawful c.as_bytes.result.now c.in-Ok.ensures.exact c.args.site.now c.init.new.site cache (Ok store) is
          (Command.Schema c.args.block) c.args.state.now (ap Command.Schema (c.in-Whole.is ∙ ap Whole (sym c.as_bytes.ensures))) c.in-Empty.is
          ready store is c.set.new.self c.set.ensures c.plain-in-Ok.result c.plain-in-Ok.ensures.said c.plain-in-Ok.ensures.memory;
    }

pub returns : goal.returns
returns g c =
    let done = c.in_ok-refused_schema-in-Err in
    let read = λ (world : World). ap (declare_over world None) (c.in-Whole.is ∙ ap Whole (sym c.as_bytes.ensures)) ∙ ap (declared world) (c.in-Err.ensures.exact done.ensures.refused) in
    record {
      carried = λ cache ready. only_answers g.T.Site c.args.site.now c.args.state.now cache _ (Command.Schema c.args.block) (schema_text c.in-Err.refusal) (Ok done.field-0)
          (λ t told files. g.met.T.Site.only_now c.args.site.now told files t) ready refl
          (refused_says g.T.Site c.args.state.now c.args.site.now c.args.block (schema_text c.in-Err.refusal) c.in-Empty.is read) done.ensures.text tt;
    }
