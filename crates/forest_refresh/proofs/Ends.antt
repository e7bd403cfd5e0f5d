-- All moves are made, and what is committed then.
use Rattle.std.proofs.Common.{◌≡◌, ◌≢◌, ◌∙◌, ◌+◌, ◌%◌, ◌^◌, ◌<◌, ◌≤◌, ◌++◌, ℕ, List, [], get_or, length, take, inl, sym, ap, subst, arith}
use Rattle.site_core.specs.Disk.{DiffersPast, Disk, Files}
use Rattle.site_core.specs.Moments.{HoldsNow, LeavesOnly}
use Rattle.site_core.proofs.Run.{holds_to, wider}
use Rattle.fact_model.specs.declared.fact.Fact.{Fact}
use Rattle.cube_schema.specs.declared.schema.Schema.{Schema}
use Rattle.forest_root.specs.declared.body.Body.{Body}
use Rattle.forest_root.specs.declared.forest.Forest.{Forest}
use Rattle.forest_root.specs.declared.forest.Store.{Store}
use Rattle.forest_root.specs.Keeps.{IsBodyOf}
use Rattle.forest_commit.specs.Commit.{IsLiveNow, slot_of}
use Rattle.spec_forest.specs.Forest.{forest as forest_bytes}
use Rattle.spec_store.specs.Held.{IsLive, KeepsAs, held}
use Rattle.spec_store.specs.Stored.{IsStoreOf, IsWhole}
use Rattle.spec_store.proofs.Places.{selection}
use Rattle.spec_store.proofs.Schemas.{few_views}
use Rattle.spec_store.proofs.Standing.{live_now}
use Rattle.spec_store.proofs.Storable.{storable}
use Rattle.forest_refresh.specs.Begun.{Begun, HasMoved, IsBegun, IsGoing, IsNext, IsNextBody, IsRefreshOf, batch_size, next_side}
use Rattle.forest_refresh.specs.Commits.{MayCommit}
use Rattle.forest_refresh.specs.Next.{HasNumbers, counts_from}
use Rattle.forest_refresh.specs.Progress.{Progress}
use Rattle.forest_refresh.specs.Refreshed.{KeepsEither}
use Rattle.forest_refresh.specs.Trees.{AreAllWhole}
use Rattle.forest_refresh.proofs.Committed.{then_either}
use Rattle.forest_refresh.proofs.Finishes.{addition_of, body_of_all, next_with, store_of, with_counts}
use Rattle.forest_refresh.proofs.Moved.{all-rows, all-written}
use Rattle.forest_refresh.proofs.Packings.{counts-of-all, has-numbers}
use Rattle.forest_refresh.proofs.Progress.{merged-whole}
use Rattle.forest_refresh.proofs.Ready.{more_names}
use Rattle.forest_refresh.proofs.Sides.{whole-before}
use Rattle.forest_refresh.proofs.Standing.{moves-few}

-- on the way the facts alone are kept
pub moved-either : (format next : ℕ) (schema : Schema) (facts all : List Fact) (last number : ℕ) (old mid : Disk) → LeavesOnly old mid (λ told files. (told ≡ old.told) × KeepsAs format schema facts last files)
    → LeavesOnly old mid (λ told files. (told ≡ old.told) × KeepsEither format schema facts last next all number files)
moved-either format next schema facts all last number old mid run = wider old mid _ _ (λ told files left. (left.0, inl left.1)) run

pub then-committed : (format next : ℕ) (schema : Schema) (facts all : List Fact) (last number : ℕ) (old mid new : Disk) → mid.told ≡ old.told
    → LeavesOnly old mid (λ told files. (told ≡ old.told) × KeepsAs format schema facts last files)
    → LeavesOnly mid new (λ told files. (told ≡ mid.told) × KeepsEither format schema facts last next all number files)
    → LeavesOnly old new (λ told files. (told ≡ old.told) × KeepsEither format schema facts last next all number files)
then-committed format next schema facts all last number old mid new same moved committed =
    then_either format next schema facts all last number old mid new same (moved-either format next schema facts all last number old mid moved) committed

-- the facts are live until the commit
live-still : (r : Begun) (facts batch : List Fact) (disk : Disk) → HoldsNow (IsRefreshOf r facts batch) disk
    → (k : ℕ) × IsLiveNow (held r.store.forest.body.format r.store.forest.schema facts r.store.forest.body.last) k r.store.forest.body disk
live-still r facts batch disk both =
    let live : HoldsNow (IsLive r.store.forest.schema r.store.forest.body facts) disk = holds_to (IsRefreshOf r facts batch) (IsLive r.store.forest.schema r.store.forest.body facts) disk (λ files is. is.live) both in
    (live.read.slot, live_now r.store.forest.schema r.store.forest.body facts disk live)

module _ (r : Begun) (begun : IsBegun r) (all : length r.progress.rows ≡ length r.store.forest.mapping.trees) where
  abbrev own : Forest
  own = r.store.forest

  -- all old trees were whole
  pub all-whole : (old mid : Files) → DiffersPast (next_side own.body) 0 old mid → HasMoved r mid → AreAllWhole own old r.deltas
  all-whole old mid differs has = λ s lt.
      let spare : ℕ = (own.body.generation + 1) % 2 in
      let other : spare ≢ slot_of own.body = λ same. omega (arith, same) in
      whole-before spare 0 old mid differs own other s (get_or r.deltas s []) (merged-whole has.done s (omega (arith, lt, all)))

  -- the numbers of points of all trees make the next body
  module _ (counts : List ℕ) (told : counts ≡ counts_from own.schema.views r.progress.rows) where
    pub next-all : IsGoing r → IsNext own.body r.entries (with_counts r.next counts)
    next-all going =
        let most : ℕ = own.body.facts + batch_size r in
        next_with r begun counts
        (subst (HasNumbers (length own.schema.views) most) (sym told)
        (has-numbers own.schema.views r.progress.rows (few_views own.schema own.lawful) most (length r.progress.rows) (λ v lt. omega (arith, all, (selection own).valid.within v lt)) going.few))

    pub next-body : IsGoing r → (old : Begun) (p : Progress) → r ≡ record old { progress = p } → IsNextBody old (with_counts r.next counts)
    next-body going old p same = record {
      follows = subst (λ (b : Begun). IsNext b.store.forest.body b.entries (with_counts r.next counts)) same (next-all going);
      facts = ap (λ (b : Begun). b.next.facts) same;
      last = ap (λ (b : Begun). b.next.last) same;
      format = ap (λ (b : Begun). b.next.format) same;
    }

    module _ (facts batch : List Fact) (files : Files) (is : IsRefreshOf r facts batch files) (has : HasMoved r files) where
      -- it is the body of all facts, whose forest stands on its side
      body-all : IsBodyOf (held r.next.format own.schema (facts ++ batch) r.next.last) (with_counts r.next counts)
      body-all = body_of_all r begun facts batch files is counts
          (counts-of-all own.schema own.lawful (facts ++ batch) (storable own.schema (facts ++ batch) own.lawful is.all r.next.format is.fits) r.progress.rows counts
          (all-rows r.next.format own files r.deltas facts batch (addition_of r facts batch files is) (slot_of r.next) r.progress has (omega (arith, all))) told)

      side-all : take (length (forest_bytes r.next.format own.schema (facts ++ batch))) (files (2 + slot_of r.next)) ≡ forest_bytes r.next.format own.schema (facts ++ batch)
      side-all = all-written r.next.format own files r.deltas facts batch (addition_of r facts batch files is) (slot_of r.next) r.progress has (omega (arith, all))

    -- so they may be committed
    pub may-commit : (facts batch : List Fact) (disk : Disk) → HoldsNow (IsRefreshOf r facts batch) disk → HasMoved r disk.files → MayCommit own r.entries (with_counts r.next counts) facts (facts ++ batch) disk
    may-commit facts batch disk both has =
        let still = live-still r facts batch disk both in
        record {
          slot = still.0;
          live = still.1;
          fits = both.read.fits;
          counted = body-all facts batch disk.files both.read has;
          named = more_names own.schema facts batch r.entries both.read.entries;
          pages = side-all facts batch disk.files both.read has;
        }

-- behind so many moves all trees are done
pub all-done : (old r s : Begun) → r ≡ s → s ≡ record old { progress = s.progress } → IsGoing s → (made most : ℕ) → 2 ^ 60 ≤ most → s.progress.taken ≡ old.progress.taken + made
    → (made < most → length s.progress.rows ≡ length old.store.forest.mapping.trees) → length r.progress.rows ≡ length r.store.forest.mapping.trees
all-done old r s view same going made most many taken limit =
    let few = moves-few s.next.format s.store.forest s.deltas (slot_of s.next) (batch_size s) s.progress going in
    subst (λ (b : Begun). length b.progress.rows ≡ length b.store.forest.mapping.trees) (sym view)
    (limit (omega (arith, taken, few, many)) ∙ sym (ap (λ (b : Begun). length b.store.forest.mapping.trees) same))

-- the store with the body of all facts is theirs
pub store-all : (r : Begun) (facts batch : List Fact) (old new : Files) (store : Store) → IsRefreshOf r facts batch old → store.forest.schema ≡ r.store.forest.schema → store.dicts ≡ r.store.dicts → IsWhole store
    → (next : Body) → store.forest.body ≡ next → IsLive r.store.forest.schema next (facts ++ batch) new → IsStoreOf store (facts ++ batch) new
store-all r facts batch old new store is schema names whole next body live =
    store_of r facts batch old new store is schema names whole (subst (λ (b : Body). IsLive r.store.forest.schema b (facts ++ batch) new) (sym body) live)
