-- How a session goes on from command to command, up to a stop or to where no command is whole.
use Rattle.std.proofs.Common.{◌≡◌, ◌∙◌, ◌++◌, length, ℕ, IsTrue, false, Option, Some, None, option_to_list, List, [], ◌∷◌, Result, Ok, Err, IfSome, ap, refl, sym, subst, subst₂, append-nil, append_assoc}
use Rattle.std.proofs.Common.{length-append, arith}
use Rattle.cube_run.proofs.Names.{Answers, AnswersByWorld, Cache, CarriesOn, Command, Cost, CostTogether, Costs, Disk, Files, Finished, Ghosts, Gives, HasGone, HasMovedTo, HasReplied, HasStopped}
use Rattle.cube_run.proofs.Names.{IsErrAnd, IsFirstWhole, IsLeft, IsWithin, Keeps, OnlyNow, Onward, Reading, Reads, Replied, RepliesTo, Runs, Spends, StandsFor, Held, Stop, World, act, at_rest}
use Rattle.cube_run.proofs.Names.{carried_command, carried_start, carried_then, during, joined, one_costs, ready, stands_left, stands_moved, stands_read, started, to_come, whole_with, wider}
use Rattle.cube_state.proofs.Giving.{gives_some}
use Rattle.cube_state.specs.Carried.{MayWrite}
use Rattle.cube_state.specs.declared.stop.Stop.TheVariants as stops
use Rattle.cube_state.specs.Moves.{Reached, format_told, reached_behind, reached_by, reached_from}
use Rattle.cube_state.proofs.Moves.{format_past, format_untold, stands_format}
use Rattle.cube_state.proofs.Standing.{stands_from}
use Rattle.spec_crash.specs.Keeps.{HasFormat, IsFrom}
use Rattle.cube_session.specs.Session.{reached_for}
use Rattle.std.proofs.lemmas.Option.{same_Some}

-- what a session that stands tells of the files: what they keep, also after a stop, the moves made and the format
stood : (session : Option Held) (d : Disk) (w : World) → StandsFor session d w
    → Keeps d.files w.kept × ((files : Files) → d.may_leave files → Keeps files w.kept) × HasMovedTo d.files w (reached_for session).made × HasFormat d.files w.kept (reached_for session).format
    × ((files : Files) → d.may_leave files → IsFrom (reached_for session).format files)
stood None d w is = absurd is
stood (Some held) d w is = (stands_read held.state d w is.stands, stands_left held.state d w is.stands, stands_moved held.state d w is.stands, stands_format held.state d w is.stands, stands_from held.state d w is.stands)

-- ---- replies

both_replied : (first second : List Command) (a b c : Files) (one two : List ℕ) (had mid has : Held) → Replied first had a one mid b → Replied second mid b two has c
    → Replied (first ++ second) had a (one ++ two) has c
both_replied [] second a b c one two had mid has is then =
    subst (λ (n : List ℕ × Held × Files). Replied second n.1 n.2 (n.0 ++ two) has c) (λ i. (sym is.0 i, is.1 i, is.2 i)) then
both_replied (command ∷ rest) second a b c one two had mid has is then = record {
  reply = is.reply;
  more = is.more ++ two;
  tells = ap (λ (l : List ℕ). l ++ two) is.tells ∙ append_assoc is.reply is.more two;
  some = is.some;
  right = is.right;
  has = is.has;
  goes = is.goes;
  next = is.next;
  leaves = is.leaves;
  rest = both_replied rest second is.next b c is.more two is.has mid has is.rest then;
}

then_replied : {first second : List Command} {had mid has : Option Held} (before then now : Disk) → HasReplied first had mid before then → HasReplied second mid has then now
    → HasReplied (first ++ second) had has before now
then_replied {first} {second} before then now one two = record {
  first = one.first;
  begins = one.begins;
  last = two.last;
  ends = two.ends;
  replies = one.replies ++ two.replies;
  told = two.told ∙ ap (λ (l : List ℕ). l ++ two.replies) one.told ∙ append_assoc before.told one.replies two.replies;
  each = both_replied first second before.files then.files now.files one.replies two.replies one.first one.last two.last one.each
      (subst (λ (h : Held). Replied second h then.files two.replies two.last now.files) (same_Some _ _ (sym two.begins ∙ one.ends)) two.each);
}

one_replied : {S : Type 0} (T : Ghosts S) (c : Command) (held : Held) (then : Option Held) (old new : S) (before after : Cache) (x : Unit {0}) → IsTrue T.tells → Answers T c held then old new before after (Ok x)
    → HasReplied (c ∷ []) (Some held) then (T.disk old) (T.disk new)
one_replied T c held None old new before after x t is = absurd is.goes_on.runs
one_replied T c held (Some then) old new before after x t is = (let reply = (is.any_files t).answered in record {
  first = held;
  begins = refl;
  last = then;
  ends = refl;
  replies = reply.reply;
  told = reply.told;
  each = record {
    reply = reply.reply;
    more = [];
    tells = sym (append-nil reply.reply);
    some = gives_some held.levels held.state (T.disk old).files c reply.reply reply.right;
    right = reply.right;
    has = then;
    goes = record { levels = is.goes_on.leveled; state = λ leaves. same_Some _ _ (is.goes_on.stays leaves) };
    next = (T.disk new).files;
    leaves = (is.any_files t).settles;
    rest = (refl, refl, refl);
  };
})

module _ {S : Type 0} (T : Ghosts S) where
  -- ---- by the world that the session stands for

  onward_none : (site : S) (had : Option Held) (w : World) (cs : List Command) → StandsFor had (T.disk site) w → OnlyNow (T.disk site) → Onward T had had w cs cs site site
  onward_none site had w cs stands only = record {
    now = w;
    stands = stands;
    carried = carried_start w cs _ _ refl;
    moved = refl;
    spent = λ all costs. record { left = all; costs = costs; reads = omega arith; writes = omega arith };
    any_moment = started _ _ (λ told files left. let now = only told files left in at_rest w cs _ told files now.0 ((stood had _ w stands).1 files now.1));
    formats = started _ _ (λ told files left. let now = only told files left in record {
      front = [];
      tells = now.0 ∙ sym (append-nil _);
      from = subst (λ (f : ℕ). IsFrom f files) (sym (format_untold w (reached_for had) cs)) ((stood had _ w stands).4 files now.1);
    });
    formats_onto = λ told files is. is;
  }

  spends_left : {old new : S} {now : World} {reached : Reached} {rest : List Command} {all : Cost} → IsLeft T old new now reached rest all → Spends T all old new
  spends_left is = record { reads = omega (arith, is.reads); writes = omega (arith, is.writes) }

  -- one command
  left_one : (old new : S) (w : World) (reached : Reached) (c : Command) (rest : List Command) (all : Cost) → ((one : Cost) → Costs w reached c one → Spends T one old new)
      → CostTogether w reached (c ∷ rest) all → IsLeft T old new (act w c).0 (reached_behind w reached c) rest all
  left_one old new w reached c rest all call (one_costs one others own more) =
      let spent = call one own in record { left = others; costs = more; reads = omega (arith, spent.reads); writes = omega (arith, spent.writes) }

  module _ (c : Command) (w : World) (held : Held) (then : Option Held) (old new : S) (before after : Cache) (rest : List Command) where
    within_one : (result : Result (Unit {0}) Stop) → AnswersByWorld T c w held.state then old new before after result → IsWithin T (Some held) w (c ∷ rest) old new
    within_one result is = record {
      any_moment = wider _ _ _ _ (during w c rest _) is.any_moment;
      formats = is.formats rest;
      cost = λ all costs. spends_left (left_one old new w (reached_by held.state) c rest all is.cost costs);
    }

    onward_one : (x : Unit {0}) → AnswersByWorld T c w held.state then old new before after (Ok x) → Onward T (Some held) then w (c ∷ rest) rest old new
    onward_one x is = record {
      now = (act w c).0;
      stands = is.stands;
      carried = carried_command w (c ∷ rest) _ w c rest (c ∷ rest) _ _ (carried_start w (c ∷ rest) _ _ refl) refl is.told;
      moved = ap (λ (m : Reached). reached_from (act w c).0 m rest) (sym is.moved);
      spent = λ all costs. subst (λ (m : Reached). IsLeft T old new (act w c).0 m rest all) (sym is.moved) (left_one old new w (reached_by held.state) c rest all is.cost costs);
      any_moment = (within_one (Ok x) is).any_moment;
      formats = is.formats rest;
      formats_onto = λ told files more. record {
        front = (act w c).1 ++ more.front;
        tells = more.tells ∙ ap (λ (l : List ℕ). l ++ more.front) is.told ∙ append_assoc (T.disk old).told (act w c).1 more.front;
        from = subst (λ (f : ℕ). IsFrom f files) (sym (ap (format_told w (reached_by held.state) (c ∷ rest)) (length-append (act w c).1 more.front) ∙ format_past w (reached_by held.state) c rest (length more.front)
            ∙ ap (λ (r : Reached). format_told (act w c).0 r rest (length more.front)) (sym is.moved))) more.from;
      };
    }

  within_now : {had has : Option Held} {w : World} {cs rest : List Command} {old new : S} → Onward T had has w cs rest old new → IsWithin T had w cs old new
  within_now is = record { any_moment = is.any_moment; formats = is.formats; cost = λ cost costs. spends_left (is.spent cost costs) }

  -- and then others
  module _ (had has : Option Held) (w : World) (cs all : List Command) (old mid new : S) (so_far : Onward T had has w cs all old mid) where
    within_then : IsWithin T has so_far.now all mid new → IsWithin T had w cs old new
    within_then next = record {
      any_moment = joined _ _ _ _ so_far.any_moment (wider _ _ _ _ so_far.carried.onto next.any_moment);
      formats = joined _ _ _ _ so_far.formats (wider _ _ _ _ so_far.formats_onto next.formats);
      cost = λ cost costs.
          let left = so_far.spent cost costs in
          let spent = next.cost left.left left.costs in
          record { reads = omega (arith, left.reads, spent.reads); writes = omega (arith, left.writes, spent.writes) };
    }

    onward_then : (then : Option Held) (rest : List Command) → Onward T has then so_far.now all rest mid new → Onward T had then w cs rest old new
    onward_then then rest next = record {
      now = next.now;
      stands = next.stands;
      carried = carried_then _ _ _ _ _ _ _ _ _ so_far.carried next.carried;
      moved = so_far.moved ∙ next.moved;
      spent = λ cost costs.
          let left = so_far.spent cost costs in
          let others = next.spent left.left left.costs in
          record { left = others.left; costs = others.costs; reads = omega (arith, left.reads, others.reads); writes = omega (arith, left.writes, others.writes) };
      any_moment = (within_then (within_now next)).any_moment;
      formats = (within_then (within_now next)).formats;
      formats_onto = λ told files more. so_far.formats_onto told files (next.formats_onto told files more);
    }

  -- nothing is left
  pub onward_done : (had has : Option Held) (w : World) (cs : List Command) (old new : S) → Onward T had has w cs [] old new → Finished (T.disk new) w (reached_for had) cs (T.disk old).told
  onward_done had has w cs old new is =
      let stands = stood has (T.disk new) is.now is.stands in
      record {
        told = is.carried.tells ∙ ap (λ (l : List ℕ). (T.disk old).told ++ l) (sym (is.carried.replies ∙ append-nil is.carried.front));
        kept = rw is.carried.final stands.0;
        moved = rw (is.carried.final, is.moved) stands.2;
        format = rw (is.carried.final, is.moved) stands.3;
      }

  -- ---- whatever the files hold

  none_replied : (site : S) (had : Option Held) (cache : Cache) → Runs T site had cache → HasReplied [] had had (T.disk site) (T.disk site)
  none_replied site None cache runs = absurd runs
  none_replied site (Some held) cache runs = record { first = held; begins = refl; last = held; ends = refl; replies = []; told = sym (append-nil _); each = (refl, refl, refl) }

  pub gone_none : (site : S) (had : Option Held) (cache : Cache) → (IsTrue T.tells → OnlyNow (T.disk site)) → Runs T site had cache → HasGone T had had [] site site cache
  gone_none site had cache only runs = record {
    onward = λ t world stands rest. onward_none site had world rest stands (only t);
    replied = λ t. none_replied site had cache runs;
    runs = runs;
    quiet = (refl, refl);
  }

  module _ (c : Command) (old new : S) (before after : Cache) (then : Option Held) where
    pub gone_one : (has : Option Held) (x : Unit {0}) → Runs T old has before → IfSome has (λ (s : Held). Answers T c s then old new before after (Ok x)) → HasGone T has then (c ∷ []) old new after
    gone_one None x runs is = absurd runs
    gone_one (Some held) x runs is = record {
      onward = λ t world stands rest. onward_one c world held then old new before after rest x (is.by_world t world stands);
      replied = λ t. one_replied T c held then old new before after x t is;
      runs = is.goes_on.runs;
      quiet = (is.goes_on.stops.disk_faults, is.goes_on.stops.told_faults);
    }

    pub stopped_one : (has : Option Held) (stop : Stop) → Runs T old has before → IfSome has (λ (s : Held). Answers T c s then old new before after (Err stop))
        → HasStopped T has (c ∷ []) old new stop
    stopped_one None stop runs is = absurd runs
    stopped_one (Some held) stop runs is = record {
      within = λ t world stands rest. within_one c world held then old new before after rest (Err stop) (is.by_world t world stands);
      undamaged = λ t world stands. (is.by_world t world stands).undamaged;
      unbegun = λ none. absurd (omega (arith, none));
      cause = is.goes_on.stops.cause;
    }

module _ {S : Type 0} {T : Ghosts S} {had has : Option Held} {one : List Command} {old mid : S} {cache : Cache} (first : HasGone T had has one old mid cache) where
  -- memory runs out behind them
  pub stopped_out : HasStopped T had one old mid stops.Memory
  stopped_out = record {
    within = λ t world stands rest. within_now T (first.onward t world stands rest);
    undamaged = λ t world stands. tt;
    unbegun = λ none. tt;
    cause = first.quiet;
  }

  -- and then others
  pub gone_then : {then : Option Held} {two : List Command} {new : S} {after : Cache} → HasGone T has then two mid new after → HasGone T had then (one ++ two) old new after
  gone_then {then} {two} {new} next = record {
    onward = λ t world stands rest.
        let so_far = first.onward t world stands (two ++ rest) in
        rw (append_assoc one two rest) (onward_then T had has world _ _ old mid new so_far then rest (next.onward t so_far.now so_far.stands rest));
    replied = λ t. then_replied (T.disk old) (T.disk mid) (T.disk new) (first.replied t) (next.replied t);
    runs = next.runs;
    quiet = (next.quiet.0 ∙ first.quiet.0, next.quiet.1 ∙ first.quiet.1);
  }

  pub stopped_then : {two : List Command} {new : S} {stop : Stop} → HasStopped T has two mid new stop → HasStopped T had (one ++ two) old new stop
  stopped_then {two} {new} {stop} next = record {
    within = λ t world stands rest.
        let so_far = first.onward t world stands (two ++ rest) in
        rw (append_assoc one two rest) (within_then T had has world _ _ old mid new so_far (next.within t so_far.now so_far.stands rest));
    undamaged = λ t world stands. let so_far = first.onward t world stands [] in next.undamaged t so_far.now so_far.stands;
    unbegun = λ none. next.unbegun (omega (arith, none, length-append one two));
    cause = rw (← first.quiet.0, ← first.quiet.1) next.cause;
  }

-- ---- up to a stop, or to where no command is whole

-- where nothing has stopped a session so far
pub record HasCarried {S : Type 0} (T : Ghosts S) (had has : Option Held) (before lines : Reading) (old new : S) (cache : Cache) : Type 0 where
  pub given : List Command
  pub reads : Reads given [] before lines
  pub gone : HasGone T had has given old new cache

pub reads_then : {one two : List Command} {first second : List ℕ} {a b c : Reading} → Reads one first a b → Reads two second b c → Reads (one ++ two) (first ++ second) a c
reads_then {one} {two} {first} {second} {a} {b} {c} so_far next = record {
  all = λ more. ap (to_come a) (append_assoc first second more) ∙ so_far.all (second ++ more) ∙ ap (λ (l : List Command). one ++ l) (next.all more) ∙ sym (append_assoc one two _);
  whole = λ going more. ap (whole_with a) (append_assoc first second more) ∙ so_far.whole going (second ++ more)
      ∙ ap (λ (l : List Command). one ++ l) (next.whole (so_far.over ∙ going) more) ∙ sym (append_assoc one two _);
  over = next.over ∙ so_far.over;
}

-- the command that was found, if there was one
pub found_reads : (lines next : Reading) (found : Option Command) → Gives lines next found → (lines.over ≡ false → IsFirstWhole lines next found) → next.over ≡ lines.over
    → (some : Option Command) → found ≡ some → Reads (option_to_list some) [] lines next
found_reads lines next found given whole over some is = subst (λ (o : Option Command). Reads (option_to_list o) [] lines next) is (record { all = given; whole = whole; over = over })

-- what is handed on
pub handed : {A E : Type 0} (r : Result A E) (x : E) → IsErrAnd r (λ (e : E). e ≡ x) → r ≡ Err x
handed (Ok y) x from = absurd from
handed (Err e) x from = ap Err from

pub carried_none : {S : Type 0} (T : Ghosts S) (site : S) (had : Option Held) (lines : Reading) (cache : Cache) → (IsTrue T.tells → OnlyNow (T.disk site)) → Runs T site had cache
    → HasCarried T had had lines lines site site cache
carried_none T site had lines cache only runs = record { given = []; reads = record { all = λ more. refl; whole = λ going more. refl; over = refl }; gone = gone_none T site had cache only runs }

module _ {S : Type 0} {T : Ghosts S} {had has : Option Held} {before lines : Reading} {old mid : S} {cache : Cache} (so_far : HasCarried T had has before lines old mid cache) (next : Reading) where
  module _ (c : Command) (reads : Reads (c ∷ []) [] lines next) (new : S) (then : Option Held) (after : Cache) where
    pub carried_more : (x : Unit {0}) → IfSome has (λ (s : Held). Answers T c s then mid new cache after (Ok x)) → HasCarried T had then before next old new after
    carried_more x answers = record {
      given = so_far.given ++ (c ∷ []);
      reads = reads_then so_far.reads reads;
      gone = gone_then so_far.gone (gone_one T c mid new cache after then has x so_far.gone.runs answers);
    }

    -- it stops the session
    pub carried_stop : (stop : Stop) → IfSome has (λ (s : Held). Answers T c s then mid new cache after (Err stop)) → CarriesOn T had then before next old new after (Err stop)
    carried_stop stop answers = record {
      given = so_far.given ++ (c ∷ []);
      reads = reads_then so_far.reads reads;
      gone = tt;
      none = tt;
      stopped = stopped_then so_far.gone (stopped_one T c mid new cache after then has stop so_far.gone.runs answers);
    }

  module _ (reads : Reads [] [] lines next) where
    reads_on : Reads so_far.given [] before next
    reads_on = subst (λ (l : List Command). Reads l [] before next) (append-nil so_far.given) (reads_then so_far.reads reads)

    -- no command is whole any more
    pub carried_done : (x : Unit {0}) → ready next ≡ [] → next.rest ≡ [] → CarriesOn T had has before next old mid cache (Ok x)
    carried_done x none read = record { given = so_far.given; reads = reads_on; gone = so_far.gone; none = (none, read); stopped = tt }

    -- memory runs out while a command is read
    pub carried_out : CarriesOn T had has before next old mid cache (Err stops.Memory)
    carried_out = record { given = so_far.given; reads = reads_on; gone = tt; none = tt; stopped = stopped_out so_far.gone }
