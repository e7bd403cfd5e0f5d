-- A refresh begins, or its store is handed back.
use Rattle.std.proofs.Common.{◌≡◌, ◌≢◌, ◌∙◌, ◌+◌, ◌%◌, ℕ, IsTrue, List, Result, Ok, Err, IfErr, IfOk, OnOk, arith, refl, sym, ap, subst}
use Rattle.site_core.specs.Disk.{Disk, Files}
use Rattle.site_core.specs.Moments.{LeavesOnly}
use Rattle.site_core.specs.declared.site.Site.{Ghosts}
use Rattle.site_core.proofs.Run.{holds_to, started}
use Rattle.attr_dict.specs.Admitting.{names_with}
use Rattle.forest_commit.proofs.Lasting.{OnlyNow}
use Rattle.spec_store.specs.Stored.{IsStoreOf}
use Rattle.spec_store.proofs.Standing.{live_keeps}
use Rattle.forest_refresh.specs.Begins.{Begins, BeginsFor, ShutsGate}
use Rattle.forest_refresh.specs.Trees.{deltas_by}
use Rattle.fact_model.specs.declared.fact.Fact.{Fact}
use Rattle.attr_dict.specs.Book.{names_at, no_names, shown_names}
use Rattle.forest_root.specs.Root.{ClosesGate}
use Rattle.forest_root.specs.declared.forest.Forest.{Forest}
use Rattle.forest_root.specs.declared.forest.Store.{Store}
use Rattle.cube_schema.specs.declared.schema.Schema.{Schema}
use Rattle.spec_store.specs.Held.{AreAccepted, IsLive, KeepsAs}
use Rattle.forest_refresh.specs.declared.stop.BeginFault.{BeginFault}
use Rattle.forest_refresh.specs.declared.stop.BeginStop.TheVariants as begins
use Rattle.forest_refresh.specs.Back.{IsBack, IsCut}
use Rattle.forest_refresh.specs.Begun.{Begun, IsGoing, IsReady, IsRefreshOf}
use Rattle.forest_refresh.specs.Limits.{TellsLimit}

-- while its facts stay live, it adds the same batch to them
pub live_again : (r : Begun) (facts batch : List Fact) (old new : Files) → IsRefreshOf r facts batch old → IsLive r.store.forest.schema r.store.forest.body facts new → IsRefreshOf r facts batch new
live_again r facts batch old new is live = record {
  accepted = is.accepted;
  live = live;
  all = is.all;
  fits = is.fits;
  shown = is.shown;
  names = is.names;
  deltas = is.deltas;
  entries = is.entries;
  counted = is.counted;
  masses = is.masses;
}

pub begun_on : (r : Begun) (facts batch : List Fact) (old new : Files) (result : Result Begun BeginFault) → IsRefreshOf r facts batch old → IfOk result (λ x. x ≡ r)
    → OnOk result (IsLive r.store.forest.schema r.store.forest.body facts new) → IfOk result (λ x. IsRefreshOf x facts batch new)
begun_on r facts batch old new (Ok x) is same live = subst (λ x. IsRefreshOf x facts batch new) (sym same) (live_again r facts batch old new is live)
begun_on r facts batch old new (Err fault) is same live = tt

-- what a moment keeps, by an equal forest
pub kept_by : (old new : Forest) → new ≡ old → (before after : Disk) (facts : List Fact) → LeavesOnly before after (λ told files. (told ≡ before.told) × KeepsAs new.body.format new.schema facts new.body.last files)
    → LeavesOnly before after (λ told files. (told ≡ before.told) × KeepsAs old.body.format old.schema facts old.body.last files)
kept_by old new same before after facts run = subst (λ (f : Forest). LeavesOnly before after (λ told files. (told ≡ before.told) × KeepsAs f.body.format f.schema facts f.body.last files)) same run

-- the store with the names alone that slices know is the one that was whole
pub cut_back : (store prepared : Store) (result : Result Begun BeginFault) → prepared.forest ≡ store.forest → prepared.shown ≡ store.shown
    → ((a : ℕ) → shown_names prepared.dicts prepared.shown.at a ≡ names_at store.dicts a)
    → IfErr result (λ fault. IsCut prepared fault.store) → IfErr result (λ fault. IsBack store fault.store)
cut_back store prepared (Ok x) forest shown front cut = tt
cut_back store prepared (Err fault) forest shown front cut = record {
  forest = cut.forest ∙ forest;
  shown = cut.shown ∙ shown;
  kinds = cut.kinds ∙ prepared.kinds ∙ ap (λ (f : Forest). (no_names f.schema).kinds) forest ∙ sym store.kinds;
  names = λ a. cut.names a ∙ front a;
}

-- a file failed, and the limits are kept
pub fits_then : (schema : Schema) (all : List Fact) (result : Result Begun BeginFault) → AreAccepted schema all → IfErr result (λ fault. fault.why ≡ begins.Disk)
    → IfErr result (λ fault. TellsLimit schema all fault.why)
fits_then schema all (Ok x) fine why = tt
fits_then schema all (Err fault) fine why = subst (TellsLimit schema all) (sym why) fine

-- ---- at each end

-- what holds of it holds of what has begun
pub of_begun : (result : Result Begun BeginFault) (r : Begun) → IfOk result (λ x. x ≡ r) → (P : Begun → Type 0) → P r → IfOk result P
of_begun (Ok x) r same P is = subst P (sym same) is
of_begun (Err fault) r same P is = tt

-- a batch was prepared, and the gate is shut or the store handed back
module _ {S : Type 0} (T : Ghosts S) (store : Store) (batch : List Fact) (r : Begun) (old new : S) (forest : r.store.forest ≡ store.forest) (shown : r.store.shown ≡ store.shown)
    (front : (a : ℕ) → shown_names r.store.dicts r.store.shown.at a ≡ names_at store.dicts a) (behind : r.next.generation ≡ r.store.forest.body.generation + 1)
    (goes : IsGoing r) (none : r.progress.taken ≡ 0) (points : r.deltas ≡ deltas_by (names_with store.dicts batch) store.forest.schema batch)
    (adds : (accepted : List Fact) (files : Files) → IsStoreOf store accepted files → IsRefreshOf r accepted batch files) where
  for_facts : (result : Result Begun BeginFault) → ShutsGate T r old new result → IsTrue T.tells → (accepted : List Fact) → BeginsFor T store batch accepted old new result
  for_facts result shuts t accepted = (let of = shuts.by_facts t accepted in record {
    begun = λ is. (let added = adds accepted (T.disk old).files is in begun_on r accepted batch (T.disk old).files (T.disk new).files result added shuts.begun (of.live added.live));
    any_moment = λ is. kept_by store.forest r.store.forest forest (T.disk old) (T.disk new) accepted
        (of.any_moment (holds_to (IsStoreOf store accepted) _ (T.disk old) (λ files was. (adds accepted files was).live) is));
  })

  pub begins_on : (result : Result Begun BeginFault) → ShutsGate T r old new result → Begins T store batch old new result
  begins_on (Ok x) shuts =
      let is : x ≡ r = shuts.begun in
      record {
        by_facts = for_facts (Ok x) shuts;
        fit = record {
          goes = subst IsGoing (sym is) goes;
          none_made = ap (λ (b : Begun). b.progress.taken) is ∙ none;
          points = ap (λ (b : Begun). b.deltas) is ∙ points;
          forest = ap (λ (b : Begun). b.store.forest) is ∙ forest;
          ready = λ t. subst (λ (b : Begun). IsReady b (T.disk new)) (sym is) (shuts.any_files t).ready;
          stable = λ t. (shuts.any_files t).stable;
          closes = λ t. subst (λ (n : ℕ). ClosesGate n (T.disk old).files (T.disk new).files) (ap (λ (n : ℕ). n % 2) (behind ∙ ap (λ (f : Forest). f.body.generation + 1) forest)) (shuts.any_files t).closes;
        };
        handed = tt;
        told = λ t. (shuts.any_files t).told;
        calls = record {
          cause = record { once = shuts.calls.cause.once; failed = tt; ok = shuts.calls.cause.ok };
          told_faults = shuts.calls.told_faults;
          reads = shuts.calls.reads;
          writes = shuts.calls.writes;
        };
      }
  begins_on (Err fault) shuts = record {
    by_facts = for_facts (Err fault) shuts;
    fit = tt;
    handed = record { back = cut_back store r.store (Err fault) forest shown front shuts.back; untouched = λ other. absurd (other shuts.why) };
    told = λ t. (shuts.any_files t).told;
    calls = record {
      cause = record { once = shuts.calls.cause.once; failed = λ disk. shuts.calls.cause.failed; ok = tt };
      told_faults = shuts.calls.told_faults;
      reads = shuts.calls.reads;
      writes = shuts.calls.writes;
    };
  }

-- none was prepared, and nothing was called
pub begins_not : {S : Type 0} (T : Ghosts S) (store : Store) (batch : List Fact) (site : S) → (IsTrue T.tells → OnlyNow (T.disk site)) → (fault : BeginFault) → IsBack store fault.store → fault.why ≢ begins.Disk
    → Begins T store batch site site (Err fault)
begins_not T store batch site only fault back no_fault = record {
  by_facts = λ t accepted. record {
    begun = λ is. tt;
    any_moment = λ is.
        started (T.disk site) (λ told files. (told ≡ (T.disk site).told) × KeepsAs store.forest.body.format store.forest.schema accepted store.forest.body.last files)
        (λ told files left. (let now = only t told files left in (now.0, live_keeps store.forest.schema store.forest.body accepted files (is.left files now.1).live)));
  };
  fit = tt;
  handed = record { back = back; untouched = λ other. refl };
  told = λ t. refl;
  calls = record { cause = record { once = omega arith; failed = λ disk. absurd (no_fault disk); ok = tt }; told_faults = refl; reads = omega arith; writes = omega arith };
}

-- want of memory is no fault of a file
pub memory_no_fault : begins.Memory ≢ begins.Disk
memory_no_fault = λ same. cc
