use Rattle.std.proofs.Common.{rules, arith, ◌≡◌, ◌<◌, ◌+◌, ◌++◌, sym, ◌∙◌, subst}
use Rattle.std.proofs.lemmas.Bool.{true≢false}
use Rattle.std.proofs.lemmas.List.Elements.{All-weaker}
use Rattle.page_fmt.specs.declared.page.Child.{Child}
use Rattle.page_fmt.specs.declared.page.Node.TheVariants as nodes
use Rattle.page_fmt.specs.Taking.{children}
use Rattle.range_scan.proofs.Visiting.{as-inner, as-leaf, inner-hits, inner-unsound, inner-visited, leaf-hits, leaf-visited, says}
use Rattle.range_scan.proofs.page.take_contents.Goals as goal

pub take_points-requires-clause-page : goal.take_points-requires-clause-page
take_points-requires-clause-page g c =
    let node : c.args.head.node ≡ nodes.Leaf = search rules in
    (as-leaf c.args.query.now.tree.now.shape c.requires.shape c.args.number c.args.page.now c.fits-page c.told-page c.args.head c.requires.accepted node).0

pub take_points-requires-clause-said : goal.take_points-requires-clause-said
take_points-requires-clause-said g c = (says c.args.query.now.tree.now.shape c.requires.shape c.args.number c.args.page.now c.fits-page c.told-page c.args.head c.requires.accepted).count

pub take_points-requires-clause-some : goal.take_points-requires-clause-some
take_points-requires-clause-some g c =
    let node : c.args.head.node ≡ nodes.Leaf = search rules in
    let leaf = (as-leaf c.args.query.now.tree.now.shape c.requires.shape c.args.number c.args.page.now c.fits-page c.told-page c.args.head c.requires.accepted node).1 in
    omega (arith, leaf.some, leaf.count)

pub take_points-requires-clause-count : goal.take_points-requires-clause-count
take_points-requires-clause-count g c =
    let node : c.args.head.node ≡ nodes.Leaf = search rules in
    (as-leaf c.args.query.now.tree.now.shape c.requires.shape c.args.number c.args.page.now c.fits-page c.told-page c.args.head c.requires.accepted node).1.count

pub take_points-requires-clause-holds : goal.take_points-requires-clause-holds
take_points-requires-clause-holds g c =
    let node : c.args.head.node ≡ nodes.Leaf = search rules in
    (as-leaf c.args.query.now.tree.now.shape c.requires.shape c.args.number c.args.page.now c.fits-page c.told-page c.args.head c.requires.accepted node).1.holds

pub take_children-requires-clause-page : goal.take_children-requires-clause-page
take_children-requires-clause-page g c =
    let node : c.args.head.node ≡ nodes.Inner = search rules in
    (as-inner c.args.query.now.tree.now.shape c.requires.shape c.args.number c.args.page.now c.fits-page c.told-page c.args.head c.requires.accepted node).0

pub take_children-requires-clause-said : goal.take_children-requires-clause-said
take_children-requires-clause-said g c = (says c.args.query.now.tree.now.shape c.requires.shape c.args.number c.args.page.now c.fits-page c.told-page c.args.head c.requires.accepted).count

pub take_children-requires-clause-count : goal.take_children-requires-clause-count
take_children-requires-clause-count g c =
    let node : c.args.head.node ≡ nodes.Inner = search rules in
    (as-inner c.args.query.now.tree.now.shape c.requires.shape c.args.number c.args.page.now c.fits-page c.told-page c.args.head c.requires.accepted node).1.count

pub take_children-requires-clause-some : goal.take_children-requires-clause-some
take_children-requires-clause-some g c =
    let node : c.args.head.node ≡ nodes.Inner = search rules in
    let inner = (as-inner c.args.query.now.tree.now.shape c.requires.shape c.args.number c.args.page.now c.fits-page c.told-page c.args.head c.requires.accepted node).1 in
    omega (arith, inner.some, inner.count)

pub take_children-requires-clause-holds : goal.take_children-requires-clause-holds
take_children-requires-clause-holds g c =
    let node : c.args.head.node ≡ nodes.Inner = search rules in
    (as-inner c.args.query.now.tree.now.shape c.requires.shape c.args.number c.args.page.now c.fits-page c.told-page c.args.head c.requires.accepted node).1.holds

pub take_children-requires-clause-below : goal.take_children-requires-clause-below
take_children-requires-clause-below g c =
    let node : c.args.head.node ≡ nodes.Inner = search rules in
    let end = c.args.query.now.tree.now.first + c.args.query.now.tree.now.pages in
    All-weaker (λ (d : Child). d.page < c.args.number) (λ (d : Child). d.page < end) (λ d low. omega (arith, low, c.requires.within)) (children c.args.query.now.tree.now.shape c.args.page.now)
    (as-inner c.args.query.now.tree.now.shape c.requires.shape c.args.number c.args.page.now c.fits-page c.told-page c.args.head c.requires.accepted node).1.below

pub returns-then-not-branch-clause-stop : goal.returns-then-not-branch-clause-stop
returns-then-not-branch-clause-stop g c = λ bytes is.
    let node : c.args.head.node ≡ nodes.Inner = search rules in
    inner-unsound c.args.query.now.tree.now bytes c.args.number c.args.page.now is c.args.head c.requires.accepted node
    (λ all. true≢false (sym (c.in_ok-take_children.ensures.within.1 all) ∙ c.if-not-branch.true))

pub returns-in_ok-take_points-clause-visited : goal.returns-in_ok-take_points-clause-visited
returns-in_ok-take_points-clause-visited g c = λ bytes is.
    let node : c.args.head.node ≡ nodes.Leaf = search rules in
    leaf-visited c.args.query.now.tree.now bytes c.args.number c.args.page.now is c.args.head c.requires.accepted node
    c.args.query.now.region.now c.args.ahead.now.items

pub returns-in_ok-take_points-clause-gives : goal.returns-in_ok-take_points-clause-gives
returns-in_ok-take_points-clause-gives g c = λ bytes is start es given.
    let node : c.args.head.node ≡ nodes.Leaf = search rules in
    subst (λ l. g.G.Taker.was_given start (es ++ l) c.take_points.new.taker)
    (leaf-hits c.args.query.now.tree.now bytes c.args.number c.args.page.now is c.args.head c.requires.accepted node
    c.args.query.now.region.now)
    (c.in_ok-take_points.ensures start es given)

pub returns-else-not-branch-clause-visited : goal.returns-else-not-branch-clause-visited
returns-else-not-branch-clause-visited g c = λ bytes is.
    let node : c.args.head.node ≡ nodes.Inner = search rules in
    inner-visited c.args.query.now.tree.now bytes c.args.number c.args.page.now is c.args.head c.requires.accepted node
    c.args.query.now.region.now c.args.ahead.now.items c.take_children.new.ahead.items
    (c.in_ok-take_children.ensures.within.0 c.if-not-branch.false) (c.in_ok-take_children.ensures.goes_on c.if-not-branch.false)

pub returns-else-not-branch-clause-gives : goal.returns-else-not-branch-clause-gives
returns-else-not-branch-clause-gives g c = λ bytes is start es given.
    let node : c.args.head.node ≡ nodes.Inner = search rules in
    subst (λ l. g.G.Taker.was_given start l c.args.taker.now)
    (inner-hits c.args.query.now.tree.now bytes c.args.number c.args.page.now is c.args.head c.requires.accepted node
    c.args.query.now.region.now es)
    given
