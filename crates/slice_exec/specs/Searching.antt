-- What a search for a slice asks of a site, and what it does to the cache.
use Rattle.std.specs.Prelude.{◌≡◌, ◌≤◌, ◌+◌, ◌%◌, ℕ, IsTrue, IfErr, OnOk, List, Result, length}
use Rattle.std.specs.Result.{IsErrOf}
use Rattle.site_core.specs.Causes.{HasCauseWhere}
use Rattle.site_core.specs.Frames.{LooksOnly}
use Rattle.site_core.specs.declared.site.Site.{Ghosts}
use Rattle.fact_model.specs.declared.slice.Slice.{Slice}
use Rattle.page_cache.specs.Giving.{Cache}
use Rattle.page_cache.specs.Keeping.{Agrees, HasRoom, Keeps, LiesIn, unkept}
use Rattle.forest_root.specs.declared.forest.Store.{Store}
use Rattle.slice_exec.specs.Answers.{NamesSide, tree_of_view, visits_of}
use Rattle.slice_exec.specs.declared.stop.AnswerStop.{AnswerStop}
use Rattle.slice_exec.specs.declared.stop.AnswerStop.TheVariants as stops

-- a search that visits these pages of a file; it makes at most `most` reads, and `fault` is the error of a failed call
pub record Searches {S A E : Type 0} (T : Ghosts S) (fault : E) (file : ℕ) (numbers : List ℕ) (most : ℕ) (old new : S) (pages kept : Cache) (result : Result A E) : Type 0 where
  -- each of these pages is read at most once
  pub visits : IsTrue T.tells → Agrees (T.disk old).files pages → T.reads new ≤ T.reads old + length numbers
  -- no cached page is read, if there is room for all these pages
  pub saves : IsTrue T.tells → Agrees (T.disk old).files pages → HasRoom pages file numbers → T.reads new ≤ T.reads old + length (unkept pages file numbers)
  -- and then all of them are cached afterwards
  pub keeps : IsTrue T.tells → Agrees (T.disk old).files pages → HasRoom pages file numbers → OnOk result (Keeps pages kept file numbers)
  pub agrees : IsTrue T.tells → Agrees (T.disk old).files pages → Agrees (T.disk new).files kept
  -- no page of another file is cached
  pub lies : LiesIn file pages → LiesIn file kept
  pub capacity : kept.capacity ≡ pages.capacity
  pub looks : LooksOnly T (HasCauseWhere fault) most old new result

-- the search for a slice in the tree of a view
pub record SearchesView {S A : Type 0} (T : Ghosts S) (store : Store) (s : Slice) (view : ℕ) (old new : S) (pages kept : Cache) (result : Result A AnswerStop) : Type 0 where
  pub tree : Searches T stops.Disk (2 + store.forest.body.generation % 2) (visits_of store s view (T.disk old).files) (tree_of_view store view).pages old new pages kept result
  pub place : IfErr result (NamesSide store.forest.body)
  -- a view covered the slice
  pub covered : IsErrOf result stops.NotCovered → ⊥
