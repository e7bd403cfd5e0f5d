-- How a session serves a script: what holds while pieces come, and each way in which it ends.
use Rattle.std.proofs.Common.{◌≡◌, ◌≤◌, ◌<◌, ◌+◌, ◌∙◌, ◌++◌, ℕ, IsTrue, true, false, inl, inr, List, [], ◌∷◌, length, take, Option, IfSome, Ok, Err, ap, refl, sym, subst, append-nil, append_assoc}
use Rattle.std.proofs.Common.{length-append, length-take, arith}
use Rattle.std.proofs.Math.Seq.{take-append_seam}
use Rattle.cube_run.proofs.Names.{Cache, CarriesOn, Command, Finished, Gave, GaveAtMost, HasGone, HasReplied, HasStopped, IsNoDamage, IsWithin, OnlyNow, PullsInto, Reading, Reads, RoseOnce, Runs}
use Rattle.cube_run.proofs.Names.{Serves, Sites, Sources, StandsFor, Held, Status, Stop, World, commands, fed, fed_whole, feeding_ended, none_to_come, none_whole, nothing_read, ready, status_of}
use Rattle.cube_run.proofs.Names.{to_come, whole, with_more}
use Rattle.cube_run.proofs.Going.{gone_none, gone_then, onward_done, reads_then, stopped_out, stopped_then}
use Rattle.cube_run.proofs.Statuses.{by_stop, of_stop, stop_cause}
use Rattle.cube_state.specs.declared.stop.Stop.TheVariants as stops
use Rattle.cube_run.specs.declared.exit.Status.TheVariants.{Done, Memory, TooLong}
use Rattle.cube_session.specs.Session.{reached_for}

-- some bytes were taken, and their commands carried out: with those that are left in the source the others are still to come
pub record HasServed {A B : Type 0} (S : Sources A) (T : Sites B) (had has : Option Held) (cache : Cache) (lines : Reading) (taken most : ℕ) (source source_now : A) (site site_now : B) : Type 0 where
  pub given : List Command
  pub seen : List ℕ
  pub gone : HasGone T had has given site site_now cache
  pub reads : Reads given seen nothing_read lines
  pub rest : lines.rest ≡ []
  pub none : ready lines ≡ []
  pub count : length seen ≡ taken
  pub few : taken ≤ most
  pub script : IsTrue S.tells → S.left source ≡ seen ++ S.left source_now
  pub quiet : (S.ends source_now ≡ S.ends source) × (S.faults source_now ≡ S.faults source)

-- what feeding a piece leaves to come
pub piece_reads : (lines buffered fed_lines : Reading) (piece : List ℕ) → lines.over ≡ false → buffered ≡ lines → fed_lines ≡ with_more buffered piece → Reads [] piece lines fed_lines
piece_reads lines buffered fed_lines piece going same is =
    rw (is, same) (record { all = λ more. fed lines _ piece more going refl; whole = λ same more. fed_whole lines _ piece more refl; over = refl })

-- nothing comes of a script without a byte
none_of : (script : List ℕ) (given rest : List Command) → commands script ≡ given ++ rest → length script ≡ 0 → length given ≡ 0
none_of [] given rest is none = omega (arith, ap length is, length-append given rest)
none_of (b ∷ bs) given rest is none = absurd (omega (arith, none))

module _ {A B : Type 0} (S : Sources A) (T : Sites B) where
  -- before the first pull
  pub served_none : (had : Option Held) (cache : Cache) (lines : Reading) (most : ℕ) (source : A) (site : B) → (IsTrue T.tells → OnlyNow (T.disk site))
      → Runs T site had cache → lines ≡ nothing_read → HasServed S T had had cache lines 0 most source source site site
  served_none had cache lines most source site only runs is = rw is (record {
    given = [];
    seen = [];
    gone = gone_none T site had cache only runs;
    reads = record { all = λ more. refl; whole = λ going more. refl; over = refl };
    rest = refl;
    none = refl;
    count = refl;
    few = omega arith;
    script = λ s. refl;
    quiet = (refl, refl);
  })

module _ {A B : Type 0} {S : Sources A} {T : Sites B} {had has : Option Held} {cache : Cache} {lines : Reading} {taken most : ℕ} {source mid : A} {site now : B}
    (so_far : HasServed S T had has cache lines taken most source mid site now) where
  all_is : IsTrue S.tells → commands (S.left source) ≡ so_far.given ++ to_come lines (S.left mid)
  all_is s = ap commands (so_far.script s) ∙ so_far.reads.all (S.left mid)

  within_is : IsTrue S.tells → IsTrue T.tells → (world : World) → StandsFor had (T.disk site) world → IsWithin T had world (commands (S.left source)) site now
  within_is s t world stands = subst (λ (l : List Command). IsWithin T had world l site now) (sym (all_is s)) ((stopped_out so_far.gone).within t world stands _)

  -- the commands that were whole are carried out
  whole_done : IsTrue T.tells → (world : World) → StandsFor had (T.disk site) world → Finished (T.disk now) world (reached_for had) (whole so_far.seen) (T.disk site).told
  whole_done t world stands =
      rw (ap whole (sym (append-nil so_far.seen)) ∙ so_far.reads.whole refl [] ∙ ap (λ (l : List Command). so_far.given ++ l) (none_whole lines so_far.reads.over so_far.none))
      (onward_done T had has world _ site now (so_far.gone.onward t world stands []))

  -- a stop, which is want of memory where it comes before the pull
  by_a_stop : (stop : Stop) (next : A) (new : B) (tried rest : List Command) → HasStopped T had tried site new stop → (IsTrue S.tells → commands (S.left source) ≡ tried ++ rest)
      → (IsTrue S.tells → Gave (S.left source) (S.left next) 0 → IsNoDamage stop) → (IsTrue S.tells → GaveAtMost (S.left source) (S.left next) most) → S.ends next ≤ S.ends source + 1
      → S.faults next ≡ S.faults source → Serves S T had most source next site new (status_of stop)
  by_a_stop stop next new tried rest is all unpulled few asked faults = record {
    within = λ s t world stands. subst (λ (l : List Command). IsWithin T had world l site new) (sym (all s)) (is.within t world stands rest);
    outcome = λ s t world stands. by_stop _ _ _ stop;
    undamaged = λ t world stands. of_stop (λ (o : Option Stop). IfSome o IsNoDamage) stop (is.undamaged t world stands);
    unpulled = λ s gave. of_stop (λ (o : Option Stop). IfSome o IsNoDamage) stop (unpulled s gave);
    few = λ s. inl (few s);
    pulled = by_stop _ _ _ stop;
    asked = asked;
    cause = stop_cause _ _ _ _ _ _ stop faults is.cause;
  }

  few_so_far : IsTrue S.tells → GaveAtMost (S.left source) (S.left mid) most
  few_so_far s = omega (arith, so_far.count, so_far.few, ap length (so_far.script s), length-append so_far.seen (S.left mid))

  pub served_out : Serves S T had most source mid site now Memory
  served_out = by_a_stop stops.Memory mid now so_far.given _ (stopped_out so_far.gone) all_is (λ s gave. tt) few_so_far (omega (arith, so_far.quiet.0)) so_far.quiet.1

  -- the pull fails
  pub served_fault : {next : A} {buffer into : List ℕ} {status : Status} → PullsInto S mid next buffer into (Err status) → Serves S T had most source next site now status
  served_fault {next} {buffer} {into} {status} pulled = subst (Serves S T had most source next site now) (sym pulled.input) (record {
    within = within_is;
    outcome = λ s t world stands. record { given = so_far.seen; cut = so_far.script s ∙ ap (λ (l : List ℕ). so_far.seen ++ l) (sym (pulled.failed s)); finished = whole_done t world stands };
    undamaged = λ t world stands. tt;
    unpulled = λ s none. tt;
    few = λ s. inl (omega (arith, few_so_far s, ap length (pulled.failed s)));
    pulled = tt;
    asked = omega (arith, so_far.quiet.0, pulled.end.failed);
    cause = (subst (λ (n : ℕ). RoseOnce n (S.faults next)) so_far.quiet.1 (pulled.cause.failed, pulled.cause.once), so_far.gone.quiet.0, so_far.gone.quiet.1);
  })

  -- ---- bytes that were pulled

  module _ {next : A} {buffer into : List ℕ} {count : ℕ} (pulled : PullsInto S mid next buffer into (Ok count)) where
    abbrev seen_now : List ℕ
    seen_now = so_far.seen ++ take count into

    script_now : IsTrue S.tells → S.left source ≡ seen_now ++ S.left next
    script_now s = so_far.script s ∙ ap (λ (l : List ℕ). so_far.seen ++ l) (pulled.bytes s).bytes ∙ sym (append_assoc so_far.seen (take count into) (S.left next))

    count_now : length seen_now ≡ taken + count
    count_now = omega (arith, so_far.count, pulled.bound, length-append so_far.seen (take count into), length-take count into)

    given_now : IsTrue S.tells → length (S.left source) ≡ taken + count + length (S.left next)
    given_now s = omega (arith, count_now, ap length (script_now s), length-append seen_now (S.left next))

    none_left : count ≡ 0 → IsTrue S.tells → S.left next ≡ []
    none_left none s = ap (λ (n : ℕ). take n into ++ S.left next) (sym none) ∙ sym (pulled.bytes s).bytes ∙ (pulled.bytes s).end none

    none_given : IsTrue S.tells → Gave (S.left source) (S.left next) 0 → length (S.left source) ≡ 0
    none_given s gave = omega (arith, gave, given_now s, ap length (none_left (omega (arith, gave, given_now s)) s))

    -- they pass the limit
    pub served_past : most < taken + count → taken + length into ≤ most + 1 → length into ≤ 65536 → 0 < count → Serves S T had most source next site now TooLong
    served_past past room piece some = record {
      within = within_is;
      outcome = λ s t world stands. record {
        looked_at = taken;
        within = so_far.few;
        last_pull = omega (arith, past, pulled.bound, piece);
        finished = subst (λ (l : List ℕ). Finished (T.disk now) world (reached_for had) (whole l) (T.disk site).told)
            (sym (ap (take taken) (so_far.script s) ∙ ap (λ (n : ℕ). take n (so_far.seen ++ S.left mid)) (sym so_far.count) ∙ take-append_seam so_far.seen (S.left mid))) (whole_done t world stands);
      };
      undamaged = λ t world stands. tt;
      unpulled = λ s none. tt;
      few = λ s. inr refl;
      pulled = λ s. omega (arith, given_now s, past, pulled.bound, room);
      asked = omega (arith, so_far.quiet.0, pulled.end.some some);
      cause = (pulled.cause.ok ∙ so_far.quiet.1, so_far.gone.quiet.0, so_far.gone.quiet.1);
    }

    -- ---- they are a piece, or the script is at its end

    pub come_piece : (fed_lines : Reading) → Reads [] (take count into) lines fed_lines → IsTrue S.tells → to_come lines (S.left mid) ≡ to_come fed_lines (S.left next)
    come_piece fed_lines reads s = ap (to_come lines) (pulled.bytes s).bytes ∙ reads.all (S.left next)

    pub come_end : (buffered fed_lines : Reading) → buffered ≡ lines → fed_lines ≡ record { over = true; place = buffered.place; rest = buffered.rest } → count ≡ 0
        → IsTrue S.tells → to_come lines (S.left mid) ≡ to_come fed_lines (S.left next)
    come_end buffered fed_lines same is none s = ap (to_come lines) ((pulled.bytes s).end none) ∙ ap (λ (r : Reading). to_come r []) (sym same)
        ∙ feeding_ended buffered fed_lines (ap (λ (r : Reading). r.over) same ∙ so_far.reads.over) is ∙ ap (to_come fed_lines) (sym (none_left none s))

    all_now : (fed_lines after : Reading) (given : List Command) → (IsTrue S.tells → to_come lines (S.left mid) ≡ to_come fed_lines (S.left next)) → Reads given [] fed_lines after → IsTrue S.tells
        → commands (S.left source) ≡ (so_far.given ++ given) ++ to_come after (S.left next)
    all_now fed_lines after given come reads s = all_is s ∙ ap (λ (l : List Command). so_far.given ++ l) (come s ∙ reads.all (S.left next)) ∙ sym (append_assoc so_far.given given _)

    module _ {fed_lines after : Reading} {then : Option Held} {new : B} {cache_now : Cache}
        (come : IsTrue S.tells → to_come lines (S.left mid) ≡ to_come fed_lines (S.left next)) where
      -- a command stops the session
      pub served_stop : {stop : Stop} → CarriesOn T has then fed_lines after now new cache_now (Err stop) → taken + count ≤ most → Serves S T had most source next site new (status_of stop)
      served_stop {stop} is few =
          let stopped = stopped_then so_far.gone is.stopped in
          let all = all_now fed_lines after is.given come is.reads in
          by_a_stop stop next new _ _ stopped all (λ s gave. stopped.unbegun (none_of _ _ _ (all s) (none_given s gave))) (λ s. omega (arith, given_now s, few))
          (omega (arith, so_far.quiet.0, pulled.end.once)) (pulled.cause.ok ∙ so_far.quiet.1)

      -- the commands that were left are carried out
      pub served_end : {x : Unit {0}} → CarriesOn T has then fed_lines after now new cache_now (Ok x) → fed_lines.over ≡ true → count ≡ 0 → Serves S T had most source next site new Done
      served_end {x} is over none =
          let gone = gone_then so_far.gone is.gone in
          let last : IsTrue S.tells → commands (S.left source) ≡ (so_far.given ++ is.given) ++ [] = λ s. all_now fed_lines after is.given come is.reads s
          ∙ ap (λ (l : List Command). (so_far.given ++ is.given) ++ l) (ap (to_come after) (none_left none s) ∙ none_to_come after (is.reads.over ∙ over) is.none.0) in
          record {
            within = λ s t world stands. subst (λ (l : List Command). IsWithin T had world l site new) (sym (last s)) ((stopped_out gone).within t world stands []);
            outcome = λ s t world stands. rw (last s) (onward_done T had then world _ site new (gone.onward t world stands []));
            undamaged = λ t world stands. tt;
            unpulled = λ s gave. tt;
            few = λ s. inl (omega (arith, given_now s, so_far.few, none));
            pulled = λ s. (none_left none s, λ t. record { has = then; replied = subst (λ (l : List Command). HasReplied l had then (T.disk site) (T.disk new)) (sym (last s ∙ append-nil _)) (gone.replied t) });
            asked = omega (arith, so_far.quiet.0, pulled.end.once);
            cause = (pulled.cause.ok ∙ so_far.quiet.1, gone.quiet.0, gone.quiet.1);
          }

    -- the commands of a piece are carried out
    pub served_more : {fed_lines after : Reading} {then : Option Held} {new : B} {cache_now : Cache} {x : Unit {0}} → Reads [] (take count into) lines fed_lines
        → CarriesOn T has then fed_lines after now new cache_now (Ok x) → taken + count ≤ most → 0 < count → HasServed S T had then cache_now after (taken + count) most source next site new
    served_more {fed_lines} {after} reads is few some = record {
      given = so_far.given ++ is.given;
      seen = seen_now;
      gone = gone_then so_far.gone is.gone;
      reads = reads_then so_far.reads (subst (λ (l : List ℕ). Reads is.given l lines after) (append-nil (take count into)) (reads_then reads is.reads));
      rest = is.none.1;
      none = is.none.0;
      count = count_now;
      few = few;
      script = script_now;
      quiet = (pulled.end.some some ∙ so_far.quiet.0, pulled.cause.ok ∙ so_far.quiet.1);
    }
