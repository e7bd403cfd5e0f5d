-- What is read of the trees of a generation.
use Rattle.std.specs.Prelude.{◌≡◌, ◌<◌, ◌++◌, ℕ, List, [], ◌∷◌, get_or, length}
use Rattle.site_core.specs.Disk.{Files}
use Rattle.attr_dict.specs.Book.{Book}
use Rattle.cube_schema.specs.declared.schema.Schema.{Schema}
use Rattle.forest_root.specs.declared.body.Body.{Body}
use Rattle.audit_points.specs.Kept.{Kept}
use Rattle.audit_tree.specs.declared.stop.TreeStop.{TreeStop}
use Rattle.audit_tree.specs.declared.stop.TreeStop.TheVariants as stops
use Rattle.audit_tree.specs.Kept.{AreKept, AreViewsOf}
use Rattle.forest_audit.specs.Audited.{BreaksTree, TreeKeeps, side_file, tree_place, trees_of}

module _ (files : Files) (body : Body) (schema : Schema) (names : Book) where
  -- a tree keeps the rules of pages, and these are its points
  pub record IsReadTree (t : ℕ) (points : List Kept) : Type 0 where
    pub keeps : TreeKeeps files body schema names t
    pub kept : AreKept (tree_place body schema t) (files (side_file body)) (tree_place body schema t).pages points

  -- the same of the first n trees
  pub record AreRead (n : ℕ) (trees : List (List Kept)) : Type 0 where
    pub many : length trees ≡ n
    pub each : (t : ℕ) (d : List Kept) → t < n → IsReadTree t (get_or trees t d)

  -- a page that is told is the first of its tree that breaks a rule
  abbrev pub TellsTree : ℕ → TreeStop → Type 0
  TellsTree t (stops.Broken page) = BreaksTree files body schema names t page
  TellsTree t stops.Disk = Unit {0}
  TellsTree t stops.Memory = Unit {0}

  -- this page of this tree is the first of all
  pub record IsFirstOf (page : ℕ) : Type 0 where
    pub tree : ℕ
    pub inside : tree < length (trees_of schema)
    pub before : (t : ℕ) → t < tree → TreeKeeps files body schema names t
    pub first : BreaksTree files body schema names tree page

  -- a page that is told is that
  abbrev pub TellsTrees : TreeStop → Type 0
  TellsTrees (stops.Broken page) = IsFirstOf page
  TellsTrees stops.Disk = Unit {0}
  TellsTrees stops.Memory = Unit {0}

-- so many trees, each of its shape
pub record AreShaped (body : Body) (schema : Schema) (n : ℕ) (trees : List (List Kept)) : Type 0 where
  pub many : length trees ≡ n
  pub each : (t : ℕ) (d : List Kept) → t < n → AreViewsOf (tree_place body schema t).shape (get_or trees t d)

-- one more stands behind them, of which this holds
pub record IsAdded (old new : List (List Kept)) (P : List Kept → Type 0) : Type 0 where
  pub points : List Kept
  pub added : new ≡ old ++ points ∷ []
  pub holds : P points
