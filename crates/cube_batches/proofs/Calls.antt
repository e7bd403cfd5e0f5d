-- Calls one after another, and what they leave of the files.
use Rattle.cube_state.specs.declared.stop.Stop.TheVariants as stops
use Rattle.forest_refresh.specs.declared.stop.RefreshStop.TheVariants as ends
use Rattle.cube_batches.proofs.Names.{◌%◌, ◌+◌, ◌∙◌, ◌≡◌, ◌≢◌, Answer, AreAllWhole, Begun, Between, Body, CarriesOutAlone, ClosesGate, Command, Disk, Err, Fact, Files, ForEach, Forest, Ghosts}
use Rattle.cube_batches.proofs.Names.{Gives, Global, IsAnswer, IsErrAnd, IsQuiet, IsTrue, KeepsEither, List, None, Ok, OnlyNow, Reply, Result, RunsOn, SaysOnly, Schema, Some, Spares, SparesOthers}
use Rattle.cube_batches.proofs.Names.{Stands, State, Stop, StopCause, Store, TellsBatchDamage, TellsFirstDamage, TellsRefreshDamage, Vec, World, act, ap, arith, asked_by, deltas_by, joined, live_of}
use Rattle.cube_batches.proofs.Names.{made_alone, moves_made, names_with, next_side, quiet, refl, runs_out, same-first-damage, same-whole, still, subst, sym, wider, with_file, with_file-other, ℕ}
use Rattle.cube_batches.proofs.Names.{Level, schema_of}
use Rattle.cube_state.specs.Moves.{Reached, reached_behind, reached_by}
use Rattle.cube_state.proofs.Moves.{reached_next}
use Rattle.spec_crash.specs.Keeps.{IsFrom}
use Rattle.cube_state.specs.Carried.{LeavesState}

-- ---- a reply

-- it is this text, or memory runs out
pub says_either : (P : Reply → Type 0) (text : List ℕ) → ((reply : Vec ℕ Global) → reply.items ≡ text → P (Ok reply)) → P (Err stops.Memory) → (result : Reply) → SaysOnly text result → P result
says_either P text replies out (Ok reply) said = replies reply said
says_either P text replies out (Err stop) said = subst (λ (s : Stop). P (Err s)) (sym said) out

pub or_out : {S : Type 0} (T : Ghosts S) (command : Command) (state next : State) (site : S) → (IsTrue T.tells → OnlyNow (T.disk site)) → (text : List ℕ)
    → ((reply : Vec ℕ Global) → reply.items ≡ text → CarriesOutAlone T command state next site site (Ok reply)) → (result : Reply) → SaysOnly text result → CarriesOutAlone T command state next site site result
or_out T command state next site only text replies = says_either (CarriesOutAlone T command state next site site) text replies (λ cache ready. runs_out T command state site cache only ready next)

pub memory_as : {A : Type 0} (result : Result A Stop) (stop : Stop) → stop ≡ stops.Memory → IsErrAnd result (λ s. s ≡ stop) → IsErrAnd result (λ s. s ≡ stops.Memory)
memory_as result stop memory is = subst (λ (m : Stop). IsErrAnd result (λ s. s ≡ m)) memory is

-- the plain machine's, which is known to be this
pub answered_by : (disk : Disk) (answer other : Answer) (state : State) (reply : List ℕ) → answer ≡ other → Stands state disk other.0 → reply ≡ other.1 → IsAnswer disk answer state reply
answered_by disk answer other state reply same stands said = subst (λ (a : Answer). IsAnswer disk a state reply) (sym same) (record { stands = stands; said = said })

-- the format is the one before, and so many moves are made
pub record IsStill (before : Reached) (next : State) (behind : Reached) : Type 0 where
  pub format : behind.format ≡ before.format
  pub made : moves_made next ≡ behind.made

pub still_reached : (state next : State) {behind : Reached} → moves_made next ≡ moves_made state → behind ≡ reached_by state → IsStill (reached_by state) next behind
still_reached state next made same = record { format = ap (λ (r : Reached). r.format) same; made = made ∙ ap (λ (r : Reached). r.made) (sym same) }

-- no call is made
pub rests : {S : Type 0} (T : Ghosts S) (command : Command) → ((schema : Schema) (levels : List Level) → asked_by schema levels command ≡ None) → (LeavesState command → ⊥) → (state next : State) (site : S) → (IsTrue T.tells → OnlyNow (T.disk site))
    → (reply : Vec ℕ Global) → ForEach T state site (λ world. IsAnswer (T.disk site) (act world command) next reply.items) → ((world : World) → Stands state (T.disk site) world
    → IsStill (reached_by state) next (reached_behind world (reached_by state) command)) → ((files : Files) (levels : List Level) → Gives levels state files command reply.items) → (RunsOn T site state → RunsOn T site next)
    → moves_made next ≡ made_alone command (moves_made state) → live_of next ≡ live_of state → schema_of next ≡ schema_of state → CarriesOutAlone T command state next site site (Ok reply)
rests T command none_asked busy state next site only reply answer moved gives runs made live same = λ cache ready. still T command none_asked state next site only cache ready reply (record {
  answer = answer;
  moved = λ t world it. reached_next world command state next (moved world it).format live (moved world it).made;
  uncalled = λ t world it none. refl;
  answered = λ t levels. gives (T.disk site).files levels;
  runs = runs ready.runs;
  busy = busy;
  schema = λ declared has. same ∙ has;
  made = λ no. made;
  said = λ alone files levels. gives files levels;
}) live

-- ---- one run behind another

pub between_then : (format : ℕ) (old mid new : Disk) (world next : World) → mid.told ≡ old.told → Between format old mid world next → Between format mid new world next → Between format old new world next
between_then format old mid new world next quiet first second =
    joined old mid new (λ told files. (told ≡ old.told) × KeepsEither world next files × IsFrom format files) first
    (wider mid new _ _ (λ told files both. (both.0 ∙ quiet, both.1, both.2)) second)

module _ {S A : Type 0} (T : Ghosts S) (old mid new : S) {x : A} (first : IsQuiet T old mid (Ok x)) where
  cause_then : (stop : Stop) → StopCause (T.disk_faults mid) (T.disk_faults new) (T.told_faults mid) (T.told_faults new) stop
      → StopCause (T.disk_faults old) (T.disk_faults new) (T.told_faults old) (T.told_faults new) stop
  cause_then stop = subst (λ (n : ℕ × ℕ). StopCause n.0 (T.disk_faults new) n.1 (T.told_faults new) stop) (λ i. (first.disk_faults i, first.told_faults i))

  pub quiet_then : {B : Type 0} (result : Result B Stop) → IsQuiet T mid new result → IsQuiet T old new result
  quiet_then (Ok y) is = record { told = λ t. is.told t ∙ first.told t; cause = tt; disk_faults = is.disk_faults ∙ first.disk_faults; told_faults = is.told_faults ∙ first.told_faults }
  quiet_then (Err stop) is = record { told = λ t. is.told t ∙ first.told t; cause = cause_then stop is.cause; disk_faults = tt; told_faults = is.told_faults ∙ first.told_faults }

-- ---- what damage spares

-- the root file is not the side of the next generation
no_root : (live : Body) → 0 ≢ next_side live
no_root live is = absurd (omega (arith, is))

closed_root : (slot : ℕ) (old mid : Files) → ClosesGate slot old mid → ClosesGate slot old (with_file old 0 (mid 0))
closed_root slot old mid closes = record {
  range = record {
    others = with_file-other old 0 (mid 0);
    no_shorter = closes.range.no_shorter;
    no_longer = closes.range.no_longer;
    before = closes.range.before;
    after = closes.range.after;
  };
  rule = closes.rule;
}

-- all files but the new side, behind a close of its gate
pub closed_spares : (live : Body) (old mid new : Files) → ClosesGate ((live.generation + 1) % 2) old mid → (stop : Stop) → SparesOthers live mid new stop → Spares (Some live) old new stop
closed_spares live old mid new closes (stops.Damaged file offset) is = record {
  others = λ file no_root no_side. is.others file no_side ∙ closes.range.others file no_root;
  root = subst (λ (bytes : List ℕ). ClosesGate ((live.generation + 1) % 2) old (with_file old 0 bytes)) (sym (is.others 0 (no_root live))) (closed_root ((live.generation + 1) % 2) old mid closes);
}
closed_spares live old mid new closes stops.Disk is = tt
closed_spares live old mid new closes stops.Output is = tt
closed_spares live old mid new closes stops.Memory is = tt

-- or without
pub side_spares : (live : Body) (old new : Files) (stop : Stop) → SparesOthers live old new stop → Spares (Some live) old new stop
side_spares live old new stop = closed_spares live old old new (record {
  range = record { others = λ file other. refl; no_shorter = omega arith; no_longer = omega arith; before = λ i low front. refl; after = λ i low behind. refl };
  rule = λ shut. refl;
}) stop

-- ---- damage, where the root file alone differs

module _ (r : Begun) (store : Store) (batch : List Fact) (old new : Files) (others : (file : ℕ) → file ≢ 0 → new file ≡ old file) (forest : r.store.forest ≡ store.forest)
    (points : r.deltas ≡ deltas_by (names_with store.dicts batch) store.forest.schema batch) where
  -- of the batch that has begun over this store
  pub batch_told : (stop : Stop) → TellsRefreshDamage r new stop → TellsBatchDamage store old batch stop
  batch_told (stops.Damaged file offset) is =
      subst (λ d. TellsFirstDamage store.forest old d (ends.Damaged file offset)) points
      (subst (λ (f : Forest). TellsFirstDamage f old r.deltas (ends.Damaged file offset)) forest
      (same-first-damage r.store.forest r.deltas old new others (ends.Damaged file offset) is))
  batch_told stops.Disk is = tt
  batch_told stops.Output is = tt
  batch_told stops.Memory is = tt

  pub batch_whole : AreAllWhole r.store.forest new r.deltas → AreAllWhole store.forest old (deltas_by (names_with store.dicts batch) store.forest.schema batch)
  batch_whole whole = subst (λ d. AreAllWhole store.forest old d) points
      (subst (λ (f : Forest). AreAllWhole f old r.deltas) forest (λ t low. same-whole r.store.forest r.deltas old new others t (whole t low)))
