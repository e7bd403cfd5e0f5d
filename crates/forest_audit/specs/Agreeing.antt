-- What is known of views whose points are read.
use Rattle.std.specs.Prelude.{◌≡◌, ◌≢◌, ◌<◌, ℕ, List, length, slice_index, Option, Some, None}
use Rattle.site_core.specs.Disk.{Files}
use Rattle.attr_dict.specs.Book.{Book}
use Rattle.cube_schema.specs.declared.schema.Schema.{Schema}
use Rattle.forest_root.specs.declared.body.Body.{Body}
use Rattle.audit_points.specs.Kept.{Kept, points_of}
use Rattle.audit_view.specs.Rolling.{AreDims, AreRead, RollsUp}
use Rattle.spec_points.specs.Points.{View}
use Rattle.forest_audit.specs.Audited.{HasAll, ViewAgrees, first_page, points_at, view_of}

-- the first place of the attribute in the view
pub record IsFirstAt (view : View) (a n : ℕ) : Type 0 where
  pub inside : n < length view
  pub here : slice_index view n ≡ a
  pub before : (i : ℕ) → i < n → slice_index view i ≡ a → ⊥

-- the attribute stands nowhere in the view
abbrev pub StandsNowhere : View → ℕ → Type 0
StandsNowhere view a = (n : ℕ) → n < length view → slice_index view n ≡ a → ⊥

-- the finer view has all attributes of the coarser one, in these dimensions
pub record HasDims (fine coarse : View) (dims : List ℕ) : Type 0 where
  pub all : HasAll fine coarse
  pub are : AreDims fine coarse dims

module _ (files : Files) (body : Body) (schema : Schema) (names : Book) where
  -- these are the points of a view, as a leaf may hold them, and the page of its first leaf
  pub record IsViewRead (v : ℕ) (kept : Kept) : Type 0 where
    pub points : points_of kept ≡ points_at files body schema names v
    pub first : kept.first ≡ first_page files body schema names v
    pub read : AreRead kept

  -- the second view is the roll-up of the first, where that is another one and has all its attributes
  abbrev pub Pairs : ℕ → ℕ → Type 0
  Pairs w v = w ≢ v → HasAll (view_of schema w) (view_of schema v) → RollsUp (view_of schema w) (view_of schema v) (points_at files body schema names w) (points_at files body schema names v)

  -- the first view that does not agree, or none
  abbrev pub FindsWrong : Option ℕ → Type 0
  FindsWrong None = (v : ℕ) → v < length schema.views → ViewAgrees files body schema names v
  FindsWrong (Some view) = (view < length schema.views) × ((v : ℕ) → v < view → ViewAgrees files body schema names v) × (ViewAgrees files body schema names view → ⊥)
