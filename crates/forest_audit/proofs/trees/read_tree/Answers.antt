use Rattle.std.proofs.Common.{◌≡◌, ◌<◌, ◌+◌, ◌∙◌, ℕ, List, [], IfOk, get_or, length, ap, arith, map, subst, sym}
use Rattle.std.specs.Prelude.{slice_index}
use Rattle.std.proofs.lemmas.List.{get_or_default}
use Rattle.page_fmt.specs.declared.page.Place.{Place}
use Rattle.page_fmt.specs.Trees.{tree_pages}
use Rattle.page_fmt.specs.Writing.{IsShape}
use Rattle.select_map.specs.declared.mapping.Mapping.{Mapping}
use Rattle.forest_root.specs.Forest.{counts_of}
use Rattle.select_map.specs.Selection.{tree_of}
use Rattle.forest_audit.specs.Audited.{tree_counts, tree_place, trees_of}
use Rattle.forest_audit.proofs.Places.{place-is, side-low, slots-low, tree-few, tree-shaped, trees-low}
use Rattle.forest_audit.proofs.Added.{told-tree}
use Rattle.forest_audit.proofs.Results.{err-one, ok-both}
use Rattle.forest_audit.specs.Limits.{limits_in, view_limits}
use Rattle.select_map.specs.declared.mapping.Tree.{Tree}
use Rattle.select_map.specs.Selection.{no_tree}
use Rattle.audit_tree.specs.Broken.{TellsBroken}
use Rattle.audit_tree.specs.Kept.{AreKept, AreViewsOf}
use Rattle.audit_tree.specs.Packed.{IsAuditedTree}
use Rattle.forest_audit.proofs.trees.read_tree.Goals as goal

pub audit-requires-clause-file : goal.audit-requires-clause-file
audit-requires-clause-file g c =
    let forest = c.args.store.now.forest in
    let place = c.place-place.ensures ∙ place-is forest forest.mapped c.args.tree in
    omega (arith, ap (λ (p : Place). p.file) place, side-low forest.body forest.schema forest.lawful forest.within)

pub audit-requires-clause-few : goal.audit-requires-clause-few
audit-requires-clause-few g c =
    let forest = c.args.store.now.forest in
    let place = c.place-place.ensures ∙ place-is forest forest.mapped c.args.tree in
    let lt : c.args.tree < length (trees_of forest.schema) = omega (arith, ap (λ (m : Mapping). length m.trees) forest.mapped, c.requires.tree) in
    omega (arith, ap (λ (p : Place). p.first + p.pages) place, tree-few forest.body forest.schema forest.lawful forest.within c.args.tree lt)

pub audit-requires-clause-shape : goal.audit-requires-clause-shape
audit-requires-clause-shape g c =
    let forest = c.args.store.now.forest in
    let place = c.place-place.ensures ∙ place-is forest forest.mapped c.args.tree in
    let lt : c.args.tree < length (trees_of forest.schema) = omega (arith, ap (λ (m : Mapping). length m.trees) forest.mapped, c.requires.tree) in
    subst (λ (p : Place). IsShape p.shape) (sym place) (tree-shaped forest.body forest.schema forest.lawful forest.within c.args.tree lt)

pub audit-requires-clause-counts : goal.audit-requires-clause-counts
audit-requires-clause-counts g c = λ i.
    let forest = c.args.store.now.forest in
    omega (arith, ap (λ (l : List ℕ). slice_index l i) c.counts_at-counts.ensures, slots-low forest.body forest.schema forest.lawful forest.within (tree_of forest.mapping c.args.tree).view_of i)

pub audit-requires-clause-pages : goal.audit-requires-clause-pages
audit-requires-clause-pages g c =
    let forest = c.args.store.now.forest in
    let place = c.place-place.ensures ∙ place-is forest forest.mapped c.args.tree in
    let counts : c.counts_at-counts.result ≡ tree_counts forest.body forest.schema c.args.tree = c.counts_at-counts.ensures ∙ ap (λ (m : Mapping). counts_of forest.body.counts (tree_of m c.args.tree)) forest.mapped in
    ap (λ (p : Place). p.pages) place ∙ (λ i. tree_pages (sym place i).shape (sym counts i))

pub overflow_cast-tree : goal.overflow_cast-tree
overflow_cast-tree g c =
    let forest = c.args.store.now.forest in
    omega (arith, ap (λ (m : Mapping). length m.trees) forest.mapped, c.requires.tree, trees-low forest.body forest.schema forest.lawful forest.within)

pub overflow_cast-tree-2 : goal.overflow_cast-tree-2
overflow_cast-tree-2 g c =
    let forest = c.args.store.now.forest in
    omega (arith, ap (λ (m : Mapping). length m.trees) forest.mapped, c.requires.tree, trees-low forest.body forest.schema forest.lawful forest.within)

pub returns-clause-read : goal.returns-clause-read
returns-clause-read g c = λ tells.
    let forest = c.args.store.now.forest in
    let t = c.args.tree in
    let dicts = c.args.store.now.dicts in
    let place : c.place-place.result ≡ tree_place forest.body forest.schema t = c.place-place.ensures ∙ place-is forest forest.mapped t in
    let counts : c.counts_at-counts.result ≡ tree_counts forest.body forest.schema t = c.counts_at-counts.ensures ∙ ap (λ (m : Mapping). counts_of forest.body.counts (tree_of m t)) forest.mapped in
    let limits : c.tree_limits-limits.result ≡ limits_in forest.schema dicts t
    = c.tree_limits-limits.ensures dicts c.requires.lengths
    ∙ (ap (λ (x : Tree). map (view_limits forest.schema dicts) x.view_of) (get_or_default c.as_slice.result.now t (record { dims = 0; view_of = [] }) no_tree (omega (arith, ap (λ (ts : List Tree). length ts) c.as_slice.ensures, c.requires.tree)))
    ∙ ap (λ (ts : List Tree). map (view_limits forest.schema dicts) (get_or ts t no_tree).view_of) (c.as_slice.ensures ∙ ap (λ (m : Mapping). m.trees) forest.mapped)) in
    let files = (g.T.Site.disk c.args.site.now).files in
    ok-both c.audit.result (c.audit.ensures.audited tells) (c.audit.ensures.kept tells) (λ kept audited are. record {
      keeps = subst (λ (p : Place). IsAuditedTree p (tree_counts forest.body forest.schema t) (limits_in forest.schema dicts t) (files p.file)) place
          (subst (λ (l : List (List ℕ)). IsAuditedTree c.place-place.result (tree_counts forest.body forest.schema t) l (files c.place-place.result.file)) limits
          (subst (λ (n : List ℕ). IsAuditedTree c.place-place.result n c.tree_limits-limits.result (files c.place-place.result.file)) counts audited));
      kept = subst (λ (p : Place). AreKept p (files p.file) p.pages kept) place are;
    })

pub returns-clause-broken : goal.returns-clause-broken
returns-clause-broken g c = λ tells.
    let forest = c.args.store.now.forest in
    let t = c.args.tree in
    let dicts = c.args.store.now.dicts in
    let place : c.place-place.result ≡ tree_place forest.body forest.schema t = c.place-place.ensures ∙ place-is forest forest.mapped t in
    let counts : c.counts_at-counts.result ≡ tree_counts forest.body forest.schema t = c.counts_at-counts.ensures ∙ ap (λ (m : Mapping). counts_of forest.body.counts (tree_of m t)) forest.mapped in
    let limits : c.tree_limits-limits.result ≡ limits_in forest.schema dicts t
    = c.tree_limits-limits.ensures dicts c.requires.lengths
    ∙ (ap (λ (x : Tree). map (view_limits forest.schema dicts) x.view_of) (get_or_default c.as_slice.result.now t (record { dims = 0; view_of = [] }) no_tree (omega (arith, ap (λ (ts : List Tree). length ts) c.as_slice.ensures, c.requires.tree)))
    ∙ ap (λ (ts : List Tree). map (view_limits forest.schema dicts) (get_or ts t no_tree).view_of) (c.as_slice.ensures ∙ ap (λ (m : Mapping). m.trees) forest.mapped)) in
    let files = (g.T.Site.disk c.args.site.now).files in
    err-one c.audit.result (c.audit.ensures.broken tells) (λ stop told. told-tree files forest.body forest.schema dicts t stop
    (subst (λ (p : Place). TellsBroken p (tree_counts forest.body forest.schema t) (limits_in forest.schema dicts t) (files p.file) stop) place
    (subst (λ (l : List (List ℕ)). TellsBroken c.place-place.result (tree_counts forest.body forest.schema t) l (files c.place-place.result.file) stop) limits
    (subst (λ (n : List ℕ). TellsBroken c.place-place.result n c.tree_limits-limits.result (files c.place-place.result.file) stop) counts told))))

pub returns-clause-shaped : goal.returns-clause-shaped
returns-clause-shaped g c =
    let forest = c.args.store.now.forest in
    let place : c.place-place.result ≡ tree_place forest.body forest.schema c.args.tree = c.place-place.ensures ∙ place-is forest forest.mapped c.args.tree in
    subst (λ (p : Place). IfOk c.audit.result (AreViewsOf p.shape)) place c.audit.ensures.views

pub returns-clause-looks : goal.returns-clause-looks
returns-clause-looks g c =
    let forest = c.args.store.now.forest in
    let place : c.place-place.result ≡ tree_place forest.body forest.schema c.args.tree = c.place-place.ensures ∙ place-is forest forest.mapped c.args.tree in
    let looks = c.audit.ensures.looks in
    record {
      disk = looks.disk;
      cause = looks.cause;
      told_faults = looks.told_faults;
      reads = omega (arith, looks.reads, ap (λ (p : Place). p.pages) place);
      writes = looks.writes;
    }
