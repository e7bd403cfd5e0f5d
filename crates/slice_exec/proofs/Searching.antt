-- A search told of the view whose tree it is in, and then of the rows.
use Rattle.std.proofs.Common.{◌≡◌, ◌+◌, ◌*◌, ◌%◌, ℕ, List, Result, Ok, Err, OnOk, refl, ap, sym, subst}
use Rattle.std.specs.Result.{IsErrAnd}
use Rattle.site_core.specs.Causes.{HasCauseWhere}
use Rattle.site_core.specs.declared.site.Site.{Ghosts}
use Rattle.fact_model.specs.declared.slice.Row.{Row}
use Rattle.fact_model.specs.declared.slice.Slice.{Slice}
use Rattle.cube_point.specs.declared.bounds.Region.{Region}
use Rattle.page_cache.specs.Giving.{Cache}
use Rattle.page_cache.specs.Keeping.{Keeps}
use Rattle.page_fmt.specs.declared.page.Place.{Place}
use Rattle.select_map.specs.Views.{tree_number}
use Rattle.forest_root.specs.declared.body.Body.{Body}
use Rattle.forest_root.specs.declared.forest.Store.{Store}
use Rattle.range_scan.specs.Visits.{visits}
use Rattle.range_scan.specs.declared.walk.SearchStop.{SearchStop}
use Rattle.range_scan.specs.declared.walk.SearchStop.TheVariants as searches
use Rattle.point_groups.specs.declared.stop.RowsStop.{RowsStop}
use Rattle.point_groups.specs.declared.stop.RowsStop.TheVariants as fails
use Rattle.slice_exec.specs.declared.stop.AnswerStop.{AnswerStop}
use Rattle.slice_exec.specs.declared.stop.AnswerStop.TheVariants as stops
use Rattle.slice_exec.specs.Answers.{region_of, rows_told, stop_at, tree_of_view, visits_of}
use Rattle.slice_exec.specs.Searching.{Searches, SearchesView}
use Rattle.slice_exec.proofs.Told.{covered-told, rows-covered, rows-on, rows-place, side-of, side-told}

-- ---- what failed

module _ {before now : ℕ} where
  -- nothing, and another value is told
  cause-done : {A B E F : Type 0} (fault : E) (other : F) (x : A) (y : B) → HasCauseWhere fault before now (Ok x) → HasCauseWhere other before now (Ok y)
  cause-done fault other x y is = record { later = is.later; once = is.once; failed = λ same. absurd cc; other = tt; ok = is.ok }

  -- nothing, and an error is told that is no fault
  cause-none : {A B E F : Type 0} (fault : E) (other y : F) (x : A) → (y ≡ other → ⊥) → HasCauseWhere fault before now (Ok x) → HasCauseWhere {T = B} other before now (Err y)
  cause-none fault other y x never is = record { later = is.later; once = is.once; failed = λ same. absurd (never cc); other = λ no. is.ok; ok = tt }

  -- the same, told by an error that is a fault where the first one is
  cause-err : {A B E F : Type 0} (fault x : E) (other y : F) → (x ≡ fault → y ≡ other) → (y ≡ other → x ≡ fault) → HasCauseWhere {T = A} fault before now (Err x) → HasCauseWhere {T = B} other before now (Err y)
  cause-err fault x other y there back is = record {
    later = is.later;
    once = is.once;
    failed = λ same. is.failed (ap Err (back cc));
    other = λ no. is.other (λ same. no (ap Err (there cc)));
    ok = tt;
  }

  cause-told : {A B : Type 0} (tree : Place) (stop : SearchStop) → HasCauseWhere {T = A} searches.Disk before now (Err stop) → HasCauseWhere {T = B} stops.Disk before now (Err (stop_at tree stop))
  cause-told tree searches.Disk = cause-err searches.Disk searches.Disk stops.Disk stops.Disk (λ same. refl) (λ same. refl)
  cause-told tree (searches.Damaged page) = cause-err searches.Disk (searches.Damaged page) stops.Disk (stops.Damaged tree.file (4096 * page)) (λ same. cc) (λ same. cc)
  cause-told tree searches.Memory = cause-err searches.Disk searches.Memory stops.Disk stops.Memory (λ same. cc) (λ same. cc)

  cause-rows : {A E : Type 0} (fault : E) (x : A) (body : Body) (made : Result (List Row) RowsStop) → HasCauseWhere fault before now (Ok x) → HasCauseWhere stops.Disk before now (rows_told body made)
  cause-rows fault x body (Ok rows) = cause-done fault stops.Disk x rows
  cause-rows fault x body (Err fails.Damaged) = cause-none fault stops.Disk (stops.Damaged (2 + body.generation % 2) 0) x (λ same. cc)
  cause-rows fault x body (Err fails.Memory) = cause-none fault stops.Disk stops.Memory x (λ same. cc)

-- ---- searches

module _ {S : Type 0} (T : Ghosts S) (old new : S) (pages kept : Cache) where
  -- the same calls, of which another answer is told
  again : {A B E F : Type 0} {fault : E} {other : F} {file : ℕ} {numbers : List ℕ} {most : ℕ} {was : Result A E} {result : Result B F}
      → ((P : Type 0) → OnOk was P → OnOk result P) → HasCauseWhere other (T.disk_faults old) (T.disk_faults new) result
      → Searches T fault file numbers most old new pages kept was → Searches T other file numbers most old new pages kept result
  again {file = file} {numbers = numbers} done cause is = record {
    visits = is.visits;
    saves = is.saves;
    keeps = λ tells agree room. done (Keeps pages kept file numbers) (is.keeps tells agree room);
    agrees = is.agrees;
    lies = is.lies;
    capacity = is.capacity;
    looks = record { disk = is.looks.disk; cause = cause; told_faults = is.looks.told_faults; reads = is.looks.reads; writes = is.looks.writes };
  }

  module _ (store : Store) (slice : Slice) (view : ℕ) where
    module _ (tree : Place) (where_found : Region) (place : tree ≡ tree_of_view store view) (region : where_found ≡ region_of store slice view) where
      -- the search of a tree in a region, which are those of the view
      abbrev Found : {E : Type 0} → E → Result (Unit {0}) E → Type 0
      Found fault = Searches T fault tree.file (visits tree where_found ((T.disk old).files tree.file)) tree.pages old new pages kept

      of-view : (result : Result (Unit {0}) AnswerStop) → Found stops.Disk result
          → Searches T stops.Disk (2 + store.forest.body.generation % 2) (visits_of store slice view (T.disk old).files) (tree_of_view store view).pages old new pages kept result
      of-view result is =
          let files = (T.disk old).files in
          let there = tree_of_view store view in
          subst (λ file. Searches T stops.Disk file (visits_of store slice view files) there.pages old new pages kept result) (side-of store.forest (tree_number store.forest.schema.views view))
          (subst (λ (r : Region). Searches T stops.Disk there.file (visits there r (files there.file)) there.pages old new pages kept result) region
          (subst (λ (p : Place). Searches T stops.Disk p.file (visits p where_found (files p.file)) p.pages old new pages kept result) place is))

      -- it is done
      pub view-searched : (done : Unit {0}) → Found searches.Disk (Ok done) → SearchesView T store slice view old new pages kept (Ok done)
      view-searched done is = record { tree = of-view (Ok done) (again (λ P there. there) (cause-done searches.Disk stops.Disk done done is.looks.cause) is); place = tt; covered = λ same. cc }

      -- or it stops
      pub view-stopped : (stop : SearchStop) → Found searches.Disk (Err stop) → SearchesView {A = Unit {0}} T store slice view old new pages kept (Err (stop_at tree stop))
      view-stopped stop is = record {
        tree = of-view (Err (stop_at tree stop)) (again (λ P there. tt) (cause-told tree stop is.looks.cause) is);
        place = side-told store.forest (tree_number store.forest.schema.views view) tree stop place;
        covered = covered-told tree stop;
      }

    -- its stop is handed on
    pub handed-on : {A B : Type 0} (stop : AnswerStop) (result : Result B AnswerStop) → IsErrAnd result (λ told. told ≡ stop) → SearchesView {A = A} T store slice view old new pages kept (Err stop)
        → SearchesView T store slice view old new pages kept result
    handed-on stop (Ok rows) same is = absurd same
    handed-on {A} {B} stop (Err told) same is = subst (λ (e : AnswerStop). SearchesView {A = B} T store slice view old new pages kept (Err e)) (sym same) (record {
      tree = again (λ P there. tt) (cause-err stops.Disk stop stops.Disk stop (λ is. is) (λ is. is) is.tree.looks.cause) is.tree;
      place = is.place;
      covered = λ none. is.covered (ap Err cc);
    })

    -- or rows are told behind it, or why there are none
    pub rows-searched : (done : Unit {0}) (made : Result (List Row) RowsStop) → SearchesView T store slice view old new pages kept (Ok done)
        → SearchesView T store slice view old new pages kept (rows_told store.forest.body made)
    rows-searched done made is = record {
      tree = again (rows-on store.forest.body made) (cause-rows stops.Disk done store.forest.body made is.tree.looks.cause) is.tree;
      place = rows-place store.forest.body made;
      covered = rows-covered store.forest.body made;
    }
