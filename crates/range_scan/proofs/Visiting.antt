-- What the bytes of a page that was read say of it.
use Rattle.std.proofs.Common.{◌≡◌, ◌≤◌, ◌++◌, ℕ, List, filter, length, reverse, Ok, sym, ap, ◌∙◌, subst, append-nil, arith}
use Rattle.std.specs.Prelude.{IsOk, is_ok}
use Rattle.std.specs.List.{All}
use Rattle.std.proofs.lemmas.List.Elements.{All-nil}
use Rattle.cube_point.specs.declared.bounds.Region.{Region}
use Rattle.cube_point.specs.declared.point.Entry.{Entry}
use Rattle.cube_point.specs.declared.point.Shape.{Shape}
use Rattle.be_numbers.specs.Formats.{IsBytes}
use Rattle.spec_tree.specs.Tree.{Leaf, Inner}
use Rattle.page_fmt.specs.declared.page.Child.{Child}
use Rattle.page_fmt.specs.declared.page.Head.{Head}
use Rattle.page_fmt.specs.declared.page.Node.TheVariants as nodes
use Rattle.page_fmt.specs.declared.page.Place.{Place}
use Rattle.page_entry.specs.Entries.{entries, HasEntries}
use Rattle.page_fmt.specs.Taking.{children, taken}
use Rattle.page_fmt.specs.Lawful.{HasChildren, HasKind, IsHead}
use Rattle.page_fmt.specs.Writing.{IsInnerPage, IsLeafPage, IsShape}
use Rattle.page_fmt.proofs.Again.{again}
use Rattle.page_fmt.proofs.Loops.{heads}
use Rattle.tree_pack.specs.Pages.{PointPage}
use Rattle.page_fmt.specs.InFiles.{IsPageOf}
use Rattle.range_scan.specs.Meeting.{is_inside}
use Rattle.range_scan.specs.Searching.{IsSound, children_in}
use Rattle.page_cache.specs.declared.cache.CacheStop.{CacheStop}
use Rattle.page_cache.specs.declared.cache.CacheStop.TheVariants as given
use Rattle.page_cache.specs.Giving.{IsUnlawful}
use Rattle.page_cache.specs.Giving as caches
use Rattle.range_scan.specs.Steps.{ExplainsStop, IsVisited, stop_at}
use Rattle.range_scan.specs.Visits.{below, held, held_if, hits, met, page_of}

-- ---- what an accepted page holds

module _ (shape : Shape) (is : IsShape shape) (number : ℕ) (page : List ℕ) (are : IsBytes page) (long : length page ≡ 4096) (head : Head) (accepted : Ok head ≡ taken shape number page) where
  pub says : IsHead shape page head
  says = heads shape number page is.dims is.measures (Ok head) accepted

  pub as-leaf : head.node ≡ nodes.Leaf → HasEntries shape page × IsLeafPage shape page head
  as-leaf node = (subst (HasKind shape page) node says.kind, (again shape number page is.dims are long (Ok head) accepted).0 node)

  pub as-inner : head.node ≡ nodes.Inner → HasChildren shape page × IsInnerPage shape number page head
  as-inner node = (subst (HasKind shape page) node says.kind, (again shape number page is.dims are long (Ok head) accepted).1 node)

-- ---- what is taken from it

module _ (tree : Place) (bytes : List ℕ) (number : ℕ) (page : List ℕ) (is : IsPageOf bytes number page) (head : Head) (accepted : Ok head ≡ taken tree.shape number page) where
  page-is : page_of tree.shape bytes number ≡ held tree.shape page head.node
  unfolding page_of
  page-is = (λ i. held_if tree.shape (sym is.bytes_are i) (taken tree.shape number (sym is.bytes_are i))) ∙ ap (held_if tree.shape page) (sym accepted)

  is-lawful : IsOk (taken tree.shape number page)
  is-lawful = sym (ap is_ok accepted)

  sound : All (λ (c : Child). tree.first ≤ c.page) (children_in (page_of tree.shape bytes number)) → IsSound tree bytes number
  sound all = record { whole = is.whole; lawful = subst (λ (p : List ℕ). IsOk (taken tree.shape number p)) is.bytes_are is-lawful; within = all }

  module _ (node : head.node ≡ nodes.Leaf) where
    leaf-is : page_of tree.shape bytes number ≡ Leaf (entries tree.shape page)
    leaf-is = page-is ∙ ap (held tree.shape page) node

    pub leaf-hits : (region : Region) → filter (is_inside region) (entries tree.shape page) ≡ hits region (page_of tree.shape bytes number)
    leaf-hits region = ap (hits region) (sym leaf-is)

    pub leaf-visited : (region : Region) (ahead : List ℕ) → IsVisited tree region bytes number ahead ahead
    leaf-visited region ahead = record {
      sound = sound (subst (λ (p : PointPage). All (λ (c : Child). tree.first ≤ c.page) (children_in p)) (sym leaf-is) (All-nil (λ (c : Child). tree.first ≤ c.page)));
      goes_on = ap (λ p. below region p ++ reverse ahead) (sym leaf-is);
    }

  module _ (node : head.node ≡ nodes.Inner) where
    inner-is : page_of tree.shape bytes number ≡ Inner (children tree.shape page)
    inner-is = page-is ∙ ap (held tree.shape page) node

    -- an inner page has no points
    pub inner-hits : (region : Region) (es : List Entry) → es ≡ es ++ hits region (page_of tree.shape bytes number)
    inner-hits region es = sym (append-nil es) ∙ ap (λ p. es ++ hits region p) (sym inner-is)

    pub inner-visited : (region : Region) (ahead next : List ℕ) → All (λ (c : Child). tree.first ≤ c.page) (children tree.shape page) → reverse next ≡ met region (children tree.shape page) ++ reverse ahead
        → IsVisited tree region bytes number ahead next
    inner-visited region ahead next all goes_on = record {
      sound = sound (subst (λ (p : PointPage). All (λ (c : Child). tree.first ≤ c.page) (children_in p)) (sym inner-is) all);
      goes_on = goes_on ∙ ap (λ p. below region p ++ reverse ahead) (sym inner-is);
    }

    -- a child before the tree's first page is a fault
    pub inner-unsound : (All (λ (c : Child). tree.first ≤ c.page) (children tree.shape page) → ⊥) → IsSound tree bytes number → ⊥
    inner-unsound before is_sound = before (subst (λ (p : PointPage). All (λ (c : Child). tree.first ≤ c.page) (children_in p)) inner-is is_sound.within)

-- ---- a page that the cache does not give

pub explained : (tree : Place) (bytes : List ℕ) (number : ℕ) (stop : CacheStop) → caches.ExplainsStop bytes number stop → IsUnlawful tree.shape bytes number stop
    → ExplainsStop tree bytes number (stop_at number stop)
explained tree bytes number given.Disk told refused = tt
explained tree bytes number given.Memory told refused = tt
explained tree bytes number given.Short told refused = λ sound. omega (arith, sound.whole, told)
explained tree bytes number given.Unlawful told refused = λ sound. refused.unlawful sound.lawful
