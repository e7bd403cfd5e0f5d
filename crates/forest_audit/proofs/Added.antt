-- One tree more.
use Rattle.std.proofs.Common.{◌≡◌, ◌<◌, ◌+◌, ℕ, List, [], ◌∷◌, ◌++◌, get_or, length, ap, sym, ◌∙◌, arith, inl, inr, subst, length-append}
use Rattle.std.proofs.Math.Seq.{get_or-append_seam}
use Rattle.std.proofs.lemmas.Bool.{cases_lt}
use Rattle.std.proofs.lemmas.List.{get_or_append_left}
use Rattle.site_core.specs.Disk.{Files}
use Rattle.attr_dict.specs.Book.{Book}
use Rattle.cube_schema.specs.declared.schema.Schema.{Schema}
use Rattle.forest_root.specs.declared.body.Body.{Body}
use Rattle.audit_points.specs.Kept.{Kept}
use Rattle.audit_tree.specs.declared.stop.TreeStop.{TreeStop}
use Rattle.audit_tree.specs.declared.stop.TreeStop.TheVariants as stops
use Rattle.audit_tree.specs.Kept.{AreViewsOf}
use Rattle.forest_audit.specs.Audited.{side_file, tree_counts, tree_place, trees_of}
use Rattle.forest_audit.specs.Limits.{limits_in}
use Rattle.audit_tree.specs.Broken.{TellsBroken}
use Rattle.forest_audit.specs.Reading.{AreRead, AreShaped, IsAdded, IsReadTree, TellsTree, TellsTrees}

-- what holds of each of the trees before, and of the one behind them, holds of each
each-more : (P : ℕ → List Kept → Type 0) (old new : List (List Kept)) (n : ℕ) → length old ≡ n → ((t : ℕ) (d : List Kept) → t < n → P t (get_or old t d)) → (added : IsAdded old new (P n))
    → (length new ≡ n + 1) × ((t : ℕ) (d : List Kept) → t < n + 1 → P t (get_or new t d))
each-more P old new n long each added = (omega (arith, ap length added.added, length-append old (added.points ∷ []), long), more)
  where
    more : (t : ℕ) (d : List Kept) → t < n + 1 → P t (get_or new t d)
    more t d lt = elim (cases_lt t n) [
      | inl under ↦ subst (P t) (sym (ap (λ (l : List (List Kept)). get_or l t d) added.added ∙ get_or_append_left old (added.points ∷ []) d t (omega (arith, under, long)))) (each t d under)
      | inr not ↦
          let here : n ≡ t = omega (arith, lt, not) in
          let at : length old ≡ t = long ∙ here in
          subst (P t) (sym (ap (λ (l : List (List Kept)). get_or l t d) added.added ∙ (ap (λ (k : ℕ). get_or (old ++ added.points ∷ []) k d) (sym at) ∙ get_or-append_seam old added.points [] d)))
          (subst (λ (k : ℕ). P k added.points) here added.holds)
    ]

pub read-more : (files : Files) (body : Body) (schema : Schema) (names : Book) (n : ℕ) (old new : List (List Kept)) → AreRead files body schema names n old → IsAdded old new (IsReadTree files body schema names n) → AreRead files body schema names (n + 1) new
read-more files body schema names n old new read added =
    let more = each-more (IsReadTree files body schema names) old new n read.many read.each added in
    record { many = more.0; each = more.1 }

pub shaped-more : (body : Body) (schema : Schema) (n : ℕ) (old new : List (List Kept)) → AreShaped body schema n old → IsAdded old new (AreViewsOf (tree_place body schema n).shape) → AreShaped body schema (n + 1) new
shaped-more body schema n old new shaped added =
    let more = each-more (λ t. AreViewsOf (tree_place body schema t).shape) old new n shaped.many shaped.each added in
    record { many = more.0; each = more.1 }

-- a page that is told is the first of all
pub told-first : (files : Files) (body : Body) (schema : Schema) (names : Book) (n : ℕ) (trees : List (List Kept)) → n < length (trees_of schema) → AreRead files body schema names n trees
    → (stop : TreeStop) → TellsTree files body schema names n stop → TellsTrees files body schema names stop
told-first files body schema names n trees lt read (stops.Broken page) first = record { tree = n; inside = lt; before = λ t low. (read.each t [] low).keeps; first = first }
told-first files body schema names n trees lt read stops.Disk first = tt
told-first files body schema names n trees lt read stops.Memory first = tt

-- a page of one tree
pub told-tree : (files : Files) (body : Body) (schema : Schema) (names : Book) (t : ℕ) (stop : TreeStop)
    → TellsBroken (tree_place body schema t) (tree_counts body schema t) (limits_in schema names t) (files (side_file body)) stop → TellsTree files body schema names t stop
told-tree files body schema names t (stops.Broken page) told = told
told-tree files body schema names t stops.Disk told = tt
told-tree files body schema names t stops.Memory told = tt
