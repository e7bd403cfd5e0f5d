use Rattle.std.proofs.Common.{◌+◌, List, ℕ, length, refl, sym, ap, ◌∙◌, subst, arith}
use Rattle.tree_scan.specs.Scanning.{ArePoints, leaf_entries}
use Rattle.tree_scan.specs.Streaming.{MayCome, last_point}
use Rattle.audit_tree.specs.Fitting.{IsFound}
use Rattle.audit_tree.proofs.Results.{err-one, on-both, on-ok}
use Rattle.audit_tree.proofs.Safe.{fits-next, fits-safe}
use Rattle.audit_tree.proofs.Telling.{bad-told, broken-told, goes-on, rooms}
use Rattle.audit_tree.proofs.tree.TreeAudit.go_on.Goals as goal

pub step-requires-clause-found : goal.step-requires-clause-found
step-requires-clause-found c =
    let f = c.in-Some.ensures in
    subst (λ (p : List ℕ). IsFound c.args.place.now.shape p c.in-Some.found.count) c.deref.ensures (record { many = f.count; leaf = f.leaf; all = f.all; are = f.are; holds = f.holds; written = f.written })

pub returns-in-Some-clause-safe : goal.returns-in-Some-clause-safe
returns-in-Some-clause-safe c =
    let s = c.args.self.now in
    on-ok c.step.result c.step.ensures.fits (λ fits. fits-safe c.args.place.now.shape s.left s.packer.at c.requires.safe (rooms c.args.place.now.shape c.requires.shape) fits)

pub returns-in-Some-clause-number : goal.returns-in-Some-clause-number
returns-in-Some-clause-number c = on-ok c.step.result c.step.ensures.fits (λ fits. fits-next fits ∙ ap (λ (n : ℕ). n + 1) c.requires.number)

pub returns-in-Some-clause-goes : goal.returns-in-Some-clause-goes
returns-in-Some-clause-goes c = λ bytes counts n there here is.
    let s = c.args.self.now in
    let shape = c.args.place.now.shape in
    let f = c.in-Some.ensures in
    let at = c.deref.ensures in
    on-both c.step.result c.step.ensures.fits c.step.ensures.last (λ fits last.
    goes-on c.args.place.now counts c.args.limits.now bytes n c.args.number here s.left s.last s.packer.at c.requires.safe is c.requires.shape s.page.value there
    (subst (λ (p : List ℕ). MayCome shape c.args.number p s.last) at f.may)
    (subst (λ (p : List ℕ). ArePoints shape (leaf_entries shape p)) at f.points)
    (omega (arith, f.few, ap (λ (p : List ℕ). length (leaf_entries shape p)) at))
    c.step.new.self.left c.step.new.self.last c.step.new.self.packer.at (last ∙ (f.last ∙ ap (λ (p : List ℕ). last_point s.last (leaf_entries shape p)) at)) fits)

pub returns-in-Some-clause-broken : goal.returns-in-Some-clause-broken
returns-in-Some-clause-broken c = λ bytes counts n there here few is.
    let s = c.args.self.now in
    err-one c.step.result c.step.ensures.only (λ stop only.
    broken-told c.args.place.now counts c.args.limits.now bytes n c.args.number here s.left s.last s.packer.at c.requires.safe is c.requires.shape few s.page.value there.bytes_are stop only)

pub returns-in-None-clause-broken : goal.returns-in-None-clause-broken
returns-in-None-clause-broken c = λ bytes counts n there here few is.
    let s = c.args.self.now in (
      sym here,
      bad-told c.args.place.now counts c.args.limits.now bytes n c.args.number here s.left s.last s.packer.at c.requires.safe is c.requires.shape s.page.value there.bytes_are
          (λ may. c.in-None.ensures.refused refl (subst (λ (p : List ℕ). MayCome c.args.place.now.shape c.args.number p s.last) (sym c.deref.ensures) may)),
    )
