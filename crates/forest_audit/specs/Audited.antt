-- The rules of a generation that is opened, and the first that is broken.
use Rattle.std.specs.Prelude.{◌≡◌, ◌≢◌, ◌⊎◌, ◌<◌, ◌+◌, ◌*◌, ◌%◌, ℕ, true, List, [], get_or, length, take, Option, Some, None}
use Rattle.std.specs.List.{All}
use Rattle.site_core.specs.Disk.{Files}
use Rattle.attr_dict.specs.Book.{Book}
use Rattle.cube_point.specs.declared.point.Entry.{Entry}
use Rattle.cube_schema.specs.declared.schema.Schema.{Schema}
use Rattle.forest_open.specs.Opening.{Place as At}
use Rattle.forest_root.specs.declared.body.Body.{Body}
use Rattle.forest_root.specs.Forest.{counts_of, pages_of, pages_of_all, shape_of}
use Rattle.page_fmt.specs.declared.page.Place.{Place}
use Rattle.page_entry.specs.declared.size.TheConstants.{PAGE}
use Rattle.select_map.specs.declared.mapping.Tree.{Tree}
use Rattle.select_map.specs.Selection.{tree_of}
use Rattle.select_map.specs.Views.{arity_at, selected, tree_number}
use Rattle.audit_tree.specs.Broken.{IsFirstBroken}
use Rattle.audit_tree.specs.Kept.{first_leaf, view_points}
use Rattle.audit_tree.specs.Packed.{IsAuditedTree}
use Rattle.audit_view.specs.Rolling.{AddUp, RollsUp}
use Rattle.spec_points.specs.Agree.{among}
use Rattle.spec_points.specs.Points.{View}
use Rattle.forest_audit.specs.Limits.{limits_in}

-- the trees of a schema
abbrev pub trees_of : Schema → List Tree
trees_of schema = (selected schema.views).trees

-- the file of the body's side
abbrev pub side_file : Body → ℕ
side_file body = 2 + body.generation % 2

-- where a tree stands
abbrev pub tree_place : Body → Schema → ℕ → Place
tree_place body schema t = record {
  file = side_file body;
  first = pages_of_all body.format schema body.counts (take t (trees_of schema));
  pages = pages_of body.format schema body.counts (tree_of (selected schema.views) t);
  shape = shape_of body.format schema (tree_of (selected schema.views) t);
}

-- the number of its points of each arity
abbrev pub tree_counts : Body → Schema → ℕ → List ℕ
tree_counts body schema t = counts_of body.counts (tree_of (selected schema.views) t)

-- a view
abbrev pub view_of : Schema → ℕ → View
view_of schema v = get_or schema.views v []

-- the first view has all attributes of the second
abbrev pub HasAll : View → View → Type 0
HasAll fine coarse = All (λ a. among fine a ≡ true) coarse

-- the offset of a page, or 0
abbrev pub offset_of : Option ℕ → ℕ
offset_of None = 0
offset_of (Some page) = PAGE * page

module _ (files : Files) (body : Body) (schema : Schema) (names : Book) where
  -- the bytes of the side
  abbrev pub side : List ℕ
  side = files (side_file body)

  -- a tree keeps the rules of pages
  abbrev pub TreeKeeps : ℕ → Type 0
  TreeKeeps t = IsAuditedTree (tree_place body schema t) (tree_counts body schema t) (limits_in schema names t) side

  -- a page of a tree is the first that breaks one
  abbrev pub BreaksTree : ℕ → ℕ → Type 0
  BreaksTree t page = IsFirstBroken (tree_place body schema t) (tree_counts body schema t) (limits_in schema names t) side page

  -- the points of a view, as they are read from the side
  abbrev pub points_at : ℕ → List Entry
  points_at v = view_points (tree_place body schema (tree_number schema.views v)) side (tree_place body schema (tree_number schema.views v)).pages (arity_at schema.views v)

  -- the page of its first leaf
  abbrev pub first_page : ℕ → Option ℕ
  first_page v = first_leaf (tree_place body schema (tree_number schema.views v)) side (tree_place body schema (tree_number schema.views v)).pages (arity_at schema.views v)

  -- its counts add up to the facts, and it is the roll-up of each other view that has all its attributes
  pub record ViewAgrees (v : ℕ) : Type 0 where
    pub adds : AddUp body.facts (points_at v)
    pub rolls : (w : ℕ) → w < length schema.views → w ≢ v → HasAll (view_of schema w) (view_of schema v)
        → RollsUp (view_of schema w) (view_of schema v) (points_at w) (points_at v)

  -- all trees keep the rules of pages
  abbrev pub AllKeep : Type 0
  AllKeep = (t : ℕ) → t < length (trees_of schema) → TreeKeeps t

  -- and all views agree
  pub record IsAudited : Type 0 where
    pub trees : AllKeep
    pub views : (v : ℕ) → v < length schema.views → ViewAgrees v

  -- the trees before this one keep the rules, and this page of it is the first that breaks one
  pub record BreaksPage (at : At) : Type 0 where
    pub tree : ℕ
    pub inside : tree < length (trees_of schema)
    pub before : (t : ℕ) → t < tree → TreeKeeps t
    pub page : ℕ
    pub first : BreaksTree tree page
    pub at_is : at ≡ (side_file body, PAGE * page)

  -- all trees keep them, and this view is the first that does not agree
  pub record BreaksView (at : At) : Type 0 where
    pub trees : AllKeep
    pub view : ℕ
    pub inside : view < length schema.views
    pub before : (v : ℕ) → v < view → ViewAgrees v
    pub wrong : ViewAgrees view → ⊥
    pub at_is : at ≡ (side_file body, offset_of (first_page view))

  -- the first rule that is broken is broken at this place
  abbrev pub BreaksAudit : At → Type 0
  BreaksAudit at = BreaksPage at ⊎ BreaksView at
