use Rattle.std.proofs.Common.{◌≤◌, ◌+◌, length, sym, subst, [], ◌∷◌}
use Rattle.site_core.specs.Disk.{Files}
use Rattle.page_cache.specs.Giving.{Cache}
use Rattle.page_cache.specs.Keeping.{Agrees, Keeps, LiesIn, unkept}
use Rattle.page_cache.proofs.Keeping.{after-agrees, after-grows, after-keeps, after-lies, ends-after}
use Rattle.range_scan.specs.Steps.{ExplainsStop}
use Rattle.range_scan.proofs.Kept.{kept-of}
use Rattle.range_scan.proofs.Visiting.{explained}
use Rattle.range_scan.proofs.walk.visit.Goals as goal

pub returns-in-Ok-clause-grows : goal.returns-in-Ok-clause-grows
returns-in-Ok-clause-grows g c =
    let file = c.args.query.now.tree.now.file in
    let old = c.args.pages.now in
    let is = ends-after old c.page.follows.lender-at-none (file, c.args.number) c.page.result c.in-Ok.page c.page.follows.holds-at-none c.in-Ok.is in
    subst (λ (now : Cache). length now.kept ≤ length old.kept + length (unkept old file (c.args.number ∷ []))) (sym is) (after-grows old file c.args.number c.in-Ok.page.bytes.now)

pub returns-in-Ok-clause-keeps : goal.returns-in-Ok-clause-keeps
returns-in-Ok-clause-keeps g c = λ room.
    let file = c.args.query.now.tree.now.file in
    let old = c.args.pages.now in
    let is = ends-after old c.page.follows.lender-at-none (file, c.args.number) c.page.result c.in-Ok.page c.page.follows.holds-at-none c.in-Ok.is in
    kept-of c.take_contents.result (subst (λ (now : Cache). Keeps old now file (c.args.number ∷ [])) (sym is) (after-keeps old file c.args.number c.in-Ok.page.bytes.now room))

pub returns-in-Ok-clause-lies : goal.returns-in-Ok-clause-lies
returns-in-Ok-clause-lies g c = λ all.
    let file = c.args.query.now.tree.now.file in
    let old = c.args.pages.now in
    let is = ends-after old c.page.follows.lender-at-none (file, c.args.number) c.page.result c.in-Ok.page c.page.follows.holds-at-none c.in-Ok.is in
    subst (LiesIn file) (sym is) (after-lies file old c.args.number c.in-Ok.page.bytes.now all)

pub returns-in-Ok-clause-agrees : goal.returns-in-Ok-clause-agrees
returns-in-Ok-clause-agrees g c = λ tells agree.
    let file = c.args.query.now.tree.now.file in
    let old = c.args.pages.now in
    let files = (g.T.Site.disk c.args.site.now).files in
    let is = ends-after old c.page.follows.lender-at-none (file, c.args.number) c.page.result c.in-Ok.page c.page.follows.holds-at-none c.in-Ok.is in
    subst (λ (f : Files). Agrees f c.page.follows.lender-at-none) (sym (c.in-Ok.ensures.looks.disk tells).files)
    (subst (Agrees files) (sym is) (after-agrees files old (file, c.args.number) c.in-Ok.page.bytes.now agree (c.in-Ok.ensures.page tells agree)))

pub returns-in-Err-clause-stop : goal.returns-in-Err-clause-stop
returns-in-Err-clause-stop g c = λ tells agree.
    let tree = c.args.query.now.tree.now in
    let bytes = (g.T.Site.disk c.args.site.now).files tree.file in
    subst (ExplainsStop tree bytes c.args.number) (sym c.stop_at.ensures)
    (explained tree bytes c.args.number c.in-Err.stop (c.in-Err.ensures.stop tells) (c.in-Err.ensures.unlawful tells agree))
