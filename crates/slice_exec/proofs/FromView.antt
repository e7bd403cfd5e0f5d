-- An answer from the view that a rule picks.
use Rattle.std.proofs.Common.{◌≡◌, ◌≤◌, ◌+◌, ℕ, IfOk, IfErr, IsTrue, List, Result, Err, ap, arith, length, refl, subst, sym}
use Rattle.std.specs.List.{All}
use Rattle.site_core.specs.declared.site.Site.{Ghosts}
use Rattle.fact_model.specs.Rows.{rows as rows_of}
use Rattle.fact_model.specs.declared.fact.Fact.{Fact}
use Rattle.fact_model.specs.declared.slice.Row.{Row}
use Rattle.fact_model.specs.declared.slice.Slice.{Slice}
use Rattle.page_cache.specs.Giving.{Cache}
use Rattle.page_cache.specs.Keeping.{Agrees}
use Rattle.view_route.specs.Counts.{body_counts}
use Rattle.forest_root.specs.declared.forest.Store.{Store}
use Rattle.spec_store.specs.Stored.{IsStoreOf}
use Rattle.view_route.specs.Routes.{IsCovering}
use Rattle.slice_rows.specs.Grouped.{HasForm}
use Rattle.slice_exec.specs.Answering.{AnswersFrom}
use Rattle.slice_exec.specs.Answers.{IsJudged, IsNoDamage, IsUncovered}
use Rattle.slice_exec.specs.Costs.{visits_over}
use Rattle.slice_exec.specs.Leaves.{HasFewLeaves}
use Rattle.slice_exec.specs.Searching.{SearchesView}
use Rattle.slice_exec.specs.declared.stop.AnswerStop.{AnswerStop}
use Rattle.slice_exec.specs.declared.stop.AnswerStop.TheVariants as stops
use Rattle.slice_exec.proofs.Costs.{same-cost}
use Rattle.slice_exec.proofs.FewLeaves.{few-leaves}

module _ {S : Type 0} (T : Ghosts S) (IsIt : List ℕ → ℕ → Type 0) (store : Store) (s : Slice) (old : S) (pages : Cache) where
  -- no view is picked, and none covers the slice
  pub from-none : IsUncovered store.forest.schema s → ((counts : List ℕ) (view : ℕ) → IsIt counts view → IsCovering store.forest.schema.views s view)
      → AnswersFrom T IsIt store s old old pages pages (Err stops.NotCovered)
  from-none none covering = record {
    rows = λ t agree facts stored. tt;
    undamaged = λ t agree facts stored. tt;
    uncovered = ((λ is. none), (λ is. refl));
    untouched = λ is. refl;
    unasked = λ is. refl;
    search = λ view is. absurd (none view (covering store.forest.body.counts view is));
    cost = λ t agree facts stored view is. absurd (none view (covering _ view is));
    few = λ facts stored view is. absurd (none view (covering _ view is));
    judged = λ t agree view is. absurd (none view (covering store.forest.body.counts view is));
    form = tt;
  }

  -- one is, and no other
  module _ (view : ℕ) (covers : IsCovering store.forest.schema.views s view) (one : (other : ℕ) → IsIt store.forest.body.counts other → view ≡ other)
      (new : S) (kept : Cache) (result : Result (List Row) AnswerStop)
      (rows : IsTrue T.tells → Agrees (T.disk old).files pages → (facts : List Fact) → IsStoreOf store facts (T.disk old).files → IfOk result (λ found. found ≡ rows_of facts s))
      (undamaged : IsTrue T.tells → Agrees (T.disk old).files pages → (facts : List Fact) → IsStoreOf store facts (T.disk old).files → IfErr result IsNoDamage)
      (judged : IsTrue T.tells → Agrees (T.disk old).files pages → IsJudged store s view (T.disk old).files result)
      (form : IfOk result (All (HasForm store.dicts s))) (search_of : SearchesView T store s view old new pages kept result) where
    -- over accepted facts it is the same
    one-over : (facts : List Fact) → IsStoreOf store facts (T.disk old).files → (other : ℕ) → IsIt (body_counts store.forest.schema facts) other → view ≡ other
    one-over facts stored other is = one other (subst (λ (counts : List ℕ). IsIt counts other) (sym stored.live.at.body_is.counts) is)

    pub from-view : AnswersFrom T IsIt store s old new pages kept result
    from-view = record {
      rows = rows;
      undamaged = undamaged;
      uncovered = ((λ is. absurd (search_of.covered is)), (λ none. absurd (none view covers)));
      untouched = λ is. absurd (search_of.covered is);
      unasked = λ is. absurd (search_of.covered is);
      search = λ other is. subst (λ (v : ℕ). SearchesView T store s v old new pages kept result) (one other is) search_of;
      cost = λ t agree facts stored other is.
          let visits = search_of.tree.visits t agree in
          let same = same-cost store s view covers.0 facts (T.disk old).files stored in
          omega (arith, visits, ap length same, ap (λ (v : ℕ). length (visits_over store.forest.body.format store.forest.schema facts s v)) (one-over facts stored other is));
      few = λ facts stored other is. subst (HasFewLeaves store.forest.body.format store.forest.schema facts s) (one-over facts stored other is)
          (few-leaves store.forest.body.format store.forest.schema store.forest.lawful facts stored.accepted stored.live.fits s view covers.0);
      judged = λ t agree other is. subst (λ (v : ℕ). IsJudged store s v (T.disk old).files result) (one other is) (judged t agree);
      form = form;
    }

  -- the answer from a view is that from the view which a rule picks, where it picks this one and no other
  module _ (view : ℕ) (one : (other : ℕ) → IsIt store.forest.body.counts other → view ≡ other) (new : S) (kept : Cache) (result : Result (List Row) AnswerStop)
      (chosen : AnswersFrom T (λ counts it. view ≡ it) store s old new pages kept result) where
    chosen-over : (facts : List Fact) → IsStoreOf store facts (T.disk old).files → (other : ℕ) → IsIt (body_counts store.forest.schema facts) other → view ≡ other
    chosen-over facts stored other is = one other (subst (λ (counts : List ℕ). IsIt counts other) (sym stored.live.at.body_is.counts) is)

    pub from-chosen : AnswersFrom T IsIt store s old new pages kept result
    from-chosen = record {
      rows = chosen.rows;
      undamaged = chosen.undamaged;
      uncovered = chosen.uncovered;
      untouched = chosen.untouched;
      unasked = chosen.unasked;
      search = λ other is. chosen.search other (one other is);
      cost = λ t agree facts stored other is. chosen.cost t agree facts stored other (chosen-over facts stored other is);
      few = λ facts stored other is. chosen.few facts stored other (chosen-over facts stored other is);
      judged = λ t agree other is. chosen.judged t agree other (one other is);
      form = chosen.form;
    }
