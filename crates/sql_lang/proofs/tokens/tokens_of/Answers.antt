use Rattle.std.proofs.Common.{◌++◌, [], ◌∷◌, length, sym, ◌∙◌, ap, append_assoc, arith}
use Rattle.std.proofs.lemmas.List.{length-drop}
use Rattle.sql_lang.specs.Tokens.{placed, tokens_from}
use Rattle.sql_lang.proofs.Cutting.{cut-one}
use Rattle.sql_lang.proofs.tokens.tokens_of.Goals as goal

pub loop-rest-preserved : goal.loop-rest-preserved
loop-rest-preserved c =
    let end = c.args.end in
    let rest = c.loop-rest.rest.now in
    let old = c.loop-rest.tokens.items in
    let f = c.in_ok-front.front in
    let behind = c.after-rest.result.now in
    let here = cut-one end rest f c.in-len1-up.len_at_least c.if-byte-eq32.false c.in_ok-front.ensures.token c.in_ok-front.ensures.some c.in_ok-front.ensures.within in
    record {
      cut = ap (λ ts. ts ++ tokens_from end 0 behind) c.in_ok-push.ensures.items
          ∙ append_assoc old (c.placed.result ∷ []) (tokens_from end 0 behind)
          ∙ ap (λ t. old ++ t ∷ tokens_from end 0 behind) c.placed.ensures
          ∙ ap (λ r. old ++ placed end rest f ∷ tokens_from end 0 r) c.after-rest.ensures
          ∙ ap (λ ts. old ++ ts) (sym here)
          ∙ c.loop-rest.invariant.cut;
      within = omega (arith, ap length c.after-rest.ensures, length-drop f.len rest, c.loop-rest.invariant.within);
    }
