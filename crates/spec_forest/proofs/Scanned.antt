-- The pages of a tree that stands in a file are good, and hold its points.
use Rattle.std.proofs.Common.{◌≡◌, ◌≤◌, ◌<◌, ◌+◌, ◌-◌, ◌*◌, ◌^◌, ℕ, zero, suc, List, [], ◌∷◌, ◌++◌, length, map, flat_map, take, drop, get_or, replicate, sum_by, refl, sym, ap, ◌∙◌, subst, arith, length-append}
use Rattle.std.specs.Prelude.{nat_lt, nat_le, slice_index}
use Rattle.std.proofs.Math.Seq.{drop-cons, drop-append_seam, take-append_seam}
use Rattle.std.proofs.lemmas.Bool.{and_parts, leb-true}
use Rattle.std.proofs.lemmas.List.{take-append-drop, take-take, drop-take, length-map, get_or-map}
use Rattle.std.proofs.lemmas.List.Elements.{All-take}
use Rattle.std.proofs.lemmas.List.Sums.{sum_by-take-drop}
use Rattle.page_entry.specs.Entries.{ascend, entry_before}
use Rattle.fact_model.specs.declared.fact.Fact.{Fact}
use Rattle.cube_point.specs.declared.point.Entry.{Entry}
use Rattle.cube_point.specs.declared.point.Shape.{Shape}
use Rattle.cube_schema.specs.declared.schema.Schema.{Schema}
use Rattle.cube_schema.specs.Lawful.{IsSchema}
use Rattle.cube_schema.specs.Kinds.{measure_count}
use Rattle.spec_points.specs.Codes.{names_of}
use Rattle.spec_points.specs.Points.{View, points}
use Rattle.spec_forest.specs.Storable.{AreStorable}
use Rattle.spec_forest.proofs.Joined.{points-few}
use Rattle.spec_tree.specs.Tree.{Page, Leaf, Inner, entries_in as page_entries}
use Rattle.page_fmt.specs.declared.page.Child.{Child}
use Rattle.page_fmt.specs.Lawful.{IsLawful, content_bytes}
use Rattle.page_fmt.specs.Writing.{IsShape}
use Rattle.tree_pack.proofs.Bytes.{each-lawful}
use Rattle.select_map.specs.declared.mapping.Tree.{Tree}
use Rattle.select_map.specs.Views.{selected}
use Rattle.select_map.specs.Selection.{no_tree}
use Rattle.forest_root.specs.Forest.{pages_of, pages_of_all, shape_of}
use Rattle.tree_pack.specs.Lawful.{AreLawful, content_of}
use Rattle.tree_pack.specs.Packing.{max_first}
use Rattle.tree_pack.specs.Pages.{page_bytes, pages_of as tree_pages_of}
use Rattle.tree_pack.proofs.Whole.{pages-entries}
use Rattle.tree_scan.specs.Scanning.{AreGood, entries_in, entries_of}
use Rattle.tree_scan.specs.Packed.{HasPages, AreLawful as AreLawfulContents}
use Rattle.tree_scan.proofs.Packed.{packed-scanned}
use Rattle.view_route.specs.Counts.{body_counts}
use Rattle.spec_forest.specs.Forest.{forest, page_count, tree_bytes, tree_entries, trees_bytes, views_over}
use Rattle.spec_forest.proofs.Bounds.{pages-within}
use Rattle.spec_forest.proofs.Bytes.{IsLong, all-long, tree-lawful, tree-long, trees-append, trees-long}
use Rattle.spec_forest.proofs.Selected.{pages-told, tree, tree-shape, tree-views}

-- ---- the numbers of points are within their limit

zeros-few : (n i : ℕ) → get_or (replicate n 0) i 0 ≤ 2 ^ 40
zeros-few zero i = omega arith
zeros-few (suc n) zero = omega arith
zeros-few (suc n) (suc i) = zeros-few n i

mapped-few : (f : View → ℕ) → ((v : View) → f v ≤ 2 ^ 40) → (vs : List View) (n i : ℕ) → get_or (map f vs ++ replicate n 0) i 0 ≤ 2 ^ 40
mapped-few f h [] n i = zeros-few n i
mapped-few f h (v ∷ vs) n zero = h v
mapped-few f h (v ∷ vs) n (suc i) = mapped-few f h vs n i

pub counts-few : (schema : Schema) (facts : List Fact) → length facts ≤ 2 ^ 40 → (i : ℕ) → slice_index (body_counts schema facts) i ≤ 2 ^ 40
counts-few schema facts few i = mapped-few (λ view. length (points (measure_count schema) view facts))
    (λ view. omega (arith, few, points-few (names_of facts) (measure_count schema) view facts)) schema.views (32 - length schema.views) i

pub few-views : (schema : Schema) → IsSchema schema → length schema.views ≤ 32
few-views schema lawful = leb-true (length schema.views) 32 (and_parts (nat_lt 0 (length schema.views)) (nat_le (length schema.views) 32) lawful.some_views).1

-- ---- a part of the front of a file

part-of : {A : Type 0} (bytes whole front mid rest : List A) → take (length whole) bytes ≡ whole → whole ≡ front ++ (mid ++ rest) → take (length mid) (drop (length front) bytes) ≡ mid
part-of bytes whole front mid rest stands split =
    let long : length whole ≡ length front + (length mid + length rest) = ap length split ∙ (length-append front (mid ++ rest) ∙ ap (λ n. length front + n) (length-append mid rest)) in
    sym (take-take (length mid) (length mid + length rest) (drop (length front) bytes) (omega arith))
    ∙ (ap (take (length mid)) (sym (drop-take (length front) (length mid + length rest) bytes))
    ∙ (ap (λ n. take (length mid) (drop (length front) (take n bytes))) (sym long)
    ∙ (ap (λ b. take (length mid) (drop (length front) b)) (stands ∙ split)
    ∙ (ap (take (length mid)) (drop-append_seam front (mid ++ rest)) ∙ take-append_seam mid rest))))

-- ---- pages as contents

lawful-contents : (shape : Shape) → IsShape shape → (first : ℕ) (pages : List (Page Entry Child)) → AreLawful shape first pages → AreLawfulContents shape first (map content_of pages)
lawful-contents shape is first pages h i d lt =
    let low : i < length pages = omega (arith, lt, length-map pages content_of) in
    subst (IsLawful shape (first + i)) (sym (get_or-map content_of pages i (Leaf []) d low)) (each-lawful shape is first pages h i (Leaf []) low)

contents-bytes : (shape : Shape) (pages : List (Page Entry Child)) → flat_map (content_bytes shape) (map content_of pages) ≡ flat_map (page_bytes shape) pages
contents-bytes shape [] = refl
contents-bytes shape (Leaf es ∷ pages) = ap (λ r. page_bytes shape (Leaf es) ++ r) (contents-bytes shape pages)
contents-bytes shape (Inner cs ∷ pages) = ap (λ r. page_bytes shape (Inner cs) ++ r) (contents-bytes shape pages)

contents-entries : (pages : List (Page Entry Child)) → flat_map entries_in (map content_of pages) ≡ page_entries pages
contents-entries [] = refl
contents-entries (Leaf es ∷ pages) = ap (λ r. es ++ r) (contents-entries pages)
contents-entries (Inner cs ∷ pages) = contents-entries pages

module _ {format : ℕ} (schema : Schema) (lawful : IsSchema schema) (facts : List Fact) (storable : AreStorable format (names_of facts) (measure_count schema) facts) where
  abbrev trees : List Tree
  trees = (selected schema.views).trees

  abbrev counts : List ℕ
  counts = body_counts schema facts

  -- the first page of a tree
  abbrev first : ℕ → ℕ
  first t = pages_of_all format schema counts (take t trees)

  all-within : pages_of_all format schema counts trees ≤ max_first
  all-within = pages-within format schema lawful counts (counts-few schema facts storable.few) (few-views schema lawful)

  -- the forest has the pages that the body tells
  pub forest-long : length (forest format schema facts) ≡ 4096 * pages_of_all format schema counts trees
  unfolding forest
  forest-long = (trees-long schema lawful facts storable 0 trees (all-long schema lawful facts storable) (omega (arith, all-within))).0

  take-within : (t : ℕ) → pages_of_all format schema counts (take t trees) ≤ max_first
  take-within t = omega (arith, all-within, sums-le (pages_of format schema counts) t trees)
    where
      sums-le : {A : Type 0} (f : A → ℕ) (n : ℕ) (xs : List A) → sum_by f (take n xs) ≤ sum_by f xs
      sums-le f n xs = omega (arith, sum_by-take-drop f xs n)

  front : (t : ℕ) → (length (trees_bytes format schema facts 0 (take t trees)) ≡ 4096 * first t) × (sum_by (page_count format schema facts) (take t trees) ≡ first t)
  front t = trees-long schema lawful facts storable 0 (take t trees) (All-take (IsLong schema lawful facts storable) t trees (all-long schema lawful facts storable)) (omega (arith, take-within t))

  -- the bytes of some trees stand before those of the next
  pub front-long : (t : ℕ) → length (trees_bytes format schema facts 0 (take t trees)) ≡ 4096 * first t
  front-long t = (front t).0

  pub front-count : (t : ℕ) → sum_by (page_count format schema facts) (take t trees) ≡ first t
  front-count t = (front t).1

  module _ (t : ℕ) (lt : t < length trees) where
    abbrev mid : List ℕ
    mid = tree_bytes format schema facts (first t) (tree schema lawful t)

    abbrev rest : List ℕ
    rest = trees_bytes format schema facts (first t + page_count format schema facts (tree schema lawful t)) (drop (suc t) trees)

    split : forest format schema facts ≡ trees_bytes format schema facts 0 (take t trees) ++ (mid ++ rest)
    unfolding forest
    split =
        let parts : trees ≡ take t trees ++ (tree schema lawful t ∷ drop (suc t) trees) = sym (take-append-drop t trees) ∙ ap (λ ts. take t trees ++ ts) (drop-cons trees t no_tree lt) in
        let number : 0 + sum_by (page_count format schema facts) (take t trees) ≡ first t = omega (arith, front-count t) in
        ap (trees_bytes format schema facts 0) parts
        ∙ (trees-append format schema facts 0 (take t trees) (tree schema lawful t ∷ drop (suc t) trees)
        ∙ ap (λ n. trees_bytes format schema facts 0 (take t trees) ++ trees_bytes format schema facts n (tree schema lawful t ∷ drop (suc t) trees)) number)

    abbrev pages : List (Page Entry Child)
    pages = tree_pages_of (shape_of format schema (tree schema lawful t)) (first t) (views_over schema facts (tree schema lawful t))

    count : length (map content_of pages) ≡ pages_of format schema counts (tree schema lawful t)
    count = length-map pages content_of ∙ pages-told schema lawful facts storable t (first t) lt

    -- the tree's bytes stand at its place
    pub tree-there : (bytes : List ℕ) → take (length (forest format schema facts)) bytes ≡ forest format schema facts
        → take (4096 * pages_of format schema counts (tree schema lawful t)) (drop (4096 * first t) bytes) ≡ mid
    tree-there bytes stands =
        let long : length mid ≡ 4096 * pages_of format schema counts (tree schema lawful t) = (tree-long schema lawful facts storable t lt).1 (first t) (take-within t) in
        (λ i. take (sym long i) (drop (sym (front-long t) i) bytes))
        ∙ part-of bytes (forest format schema facts) (trees_bytes format schema facts 0 (take t trees)) mid rest stands split

    -- and so do its pages
    pub tree-stands : (bytes : List ℕ) → take (length (forest format schema facts)) bytes ≡ forest format schema facts → HasPages (shape_of format schema (tree schema lawful t)) bytes (first t) (map content_of pages)
    tree-stands bytes stands =
        ap (λ n. take (4096 * n) (drop (4096 * first t) bytes)) count
        ∙ (tree-there bytes stands ∙ sym (contents-bytes (shape_of format schema (tree schema lawful t)) pages))

    scanned : (bytes : List ℕ) → take (length (forest format schema facts)) bytes ≡ forest format schema facts
        → AreGood (shape_of format schema (tree schema lawful t)) bytes (first t) (length (map content_of pages))
        × (entries_of (shape_of format schema (tree schema lawful t)) bytes (first t) (length (map content_of pages)) ≡ tree_entries schema facts (tree schema lawful t))
    scanned bytes stands =
        let views = tree-views schema lawful facts storable t lt in
        let shape = tree-shape schema lawful format t lt in
        let entries : flat_map entries_in (map content_of pages) ≡ tree_entries schema facts (tree schema lawful t)
        = contents-entries pages ∙ pages-entries (shape_of format schema (tree schema lawful t)) shape (views_over schema facts (tree schema lawful t)) (tree_entries schema facts (tree schema lawful t)) views (first t) in
        let found = packed-scanned (shape_of format schema (tree schema lawful t)) shape.dims bytes (first t) (map content_of pages)
        (lawful-contents (shape_of format schema (tree schema lawful t)) shape (first t) pages (tree-lawful schema lawful facts storable t (first t) lt (take-within t)))
        (tree-stands bytes stands) (ap (ascend entry_before) entries ∙ views.points.order) in
        (found.0, found.1 ∙ entries)

    -- so all its pages are good, and hold its points
    pub tree-good : (bytes : List ℕ) → take (length (forest format schema facts)) bytes ≡ forest format schema facts
        → AreGood (shape_of format schema (tree schema lawful t)) bytes (first t) (pages_of format schema counts (tree schema lawful t))
        × (entries_of (shape_of format schema (tree schema lawful t)) bytes (first t) (pages_of format schema counts (tree schema lawful t)) ≡ tree_entries schema facts (tree schema lawful t))
    tree-good bytes stands =
        subst (λ n. AreGood (shape_of format schema (tree schema lawful t)) bytes (first t) n × (entries_of (shape_of format schema (tree schema lawful t)) bytes (first t) n ≡ tree_entries schema facts (tree schema lawful t)))
        count (scanned bytes stands)
