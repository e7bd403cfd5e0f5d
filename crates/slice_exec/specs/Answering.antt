-- The contract of the answer to a slice, from any view.
use Rattle.std.specs.Prelude.{◌≡◌, ◌≤◌, ◌+◌, ◌↔◌, ℕ, IsTrue, IfOk, IfErr, List, Result, length}
use Rattle.std.specs.List.{All}
use Rattle.std.specs.Result.{IsErrOf}
use Rattle.site_core.specs.declared.site.Site.{Ghosts}
use Rattle.fact_model.specs.Rows.{rows as rows_of}
use Rattle.fact_model.specs.declared.fact.Fact.{Fact}
use Rattle.fact_model.specs.declared.slice.Row.{Row}
use Rattle.fact_model.specs.declared.slice.Slice.{Slice}
use Rattle.page_cache.specs.Giving.{Cache}
use Rattle.page_cache.specs.Keeping.{Agrees}
use Rattle.view_route.specs.Counts.{body_counts}
use Rattle.forest_root.specs.declared.forest.Store.{Store}
use Rattle.spec_store.specs.Stored.{IsStoreOf}
use Rattle.slice_rows.specs.Grouped.{HasForm}
use Rattle.slice_exec.specs.Answers.{IsJudged, IsNoDamage, IsUncovered}
use Rattle.slice_exec.specs.Costs.{visits_over}
use Rattle.slice_exec.specs.Leaves.{HasFewLeaves}
use Rattle.slice_exec.specs.Searching.{SearchesView}
use Rattle.slice_exec.specs.declared.stop.AnswerStop.{AnswerStop}
use Rattle.slice_exec.specs.declared.stop.AnswerStop.TheVariants as stops

-- a slice is answered from the view that this rule picks by the number of points of each view
pub record AnswersFrom {S : Type 0} (T : Ghosts S) (IsIt : List ℕ → ℕ → Type 0) (store : Store) (s : Slice) (old new : S) (pages kept : Cache) (result : Result (List Row) AnswerStop) : Type 0 where
  -- the rows are those of the accepted facts, and no damage is reported
  pub rows : IsTrue T.tells → Agrees (T.disk old).files pages → (facts : List Fact) → IsStoreOf store facts (T.disk old).files → IfOk result (λ found. found ≡ rows_of facts s)
  pub undamaged : IsTrue T.tells → Agrees (T.disk old).files pages → (facts : List Fact) → IsStoreOf store facts (T.disk old).files → IfErr result IsNoDamage
  -- `NotCovered` is returned exactly if no view covers the slice, and then no call was made
  pub uncovered : IsErrOf result stops.NotCovered ↔ IsUncovered store.forest.schema s
  pub untouched : IsErrOf result stops.NotCovered → new ≡ old
  pub unasked : IsErrOf result stops.NotCovered → kept ≡ pages
  -- otherwise the tree of the view is searched
  pub search : (view : ℕ) → IsIt store.forest.body.counts view → SearchesView T store s view old new pages kept result
  -- over accepted facts, each page that the search visits is read at most once
  pub cost : IsTrue T.tells → Agrees (T.disk old).files pages → (facts : List Fact) → IsStoreOf store facts (T.disk old).files → (view : ℕ) → IsIt (body_counts store.forest.schema facts) view
      → T.reads new ≤ T.reads old + length (visits_over store.forest.body.format store.forest.schema facts s view)
  -- and few of them are leaves, if only the view's last attribute is bound
  pub few : (facts : List Fact) → IsStoreOf store facts (T.disk old).files → (view : ℕ) → IsIt (body_counts store.forest.schema facts) view
      → HasFewLeaves store.forest.body.format store.forest.schema facts s view
  -- for any files, the rows are those of the points found, or the damage reported exists
  pub judged : IsTrue T.tells → Agrees (T.disk old).files pages → (view : ℕ) → IsIt store.forest.body.counts view → IsJudged store s view (T.disk old).files result
  pub form : IfOk result (All (HasForm store.dicts s))
