-- What files with a live body keep while nothing is written.
use Rattle.std.proofs.Common.{◌≡◌, ℕ, List, sym, ap, subst, ◌∙◌}
use Rattle.site_core.specs.Disk.{Files, Disk}
use Rattle.site_core.specs.Calls.{Rests}
use Rattle.site_core.specs.Moments.{HoldsNow, IsStable}
use Rattle.fact_model.specs.declared.fact.Fact.{Fact}
use Rattle.forest_root.specs.declared.body.Body.{Body}
use Rattle.forest_root.proofs.One.{one_live}
use Rattle.forest_root.specs.Keeps.{LiveAt}
use Rattle.forest_root.specs.Live.{IsLiveBody}
use Rattle.forest_root.specs.Root.{RootIsStable}
use Rattle.forest_commit.specs.Commit.{IsLiveNow}
use Rattle.cube_schema.specs.declared.schema.Schema.{Schema}
use Rattle.spec_store.specs.Held.{IsLive, KeepsAs, KeepsFacts, held}
use Rattle.spec_store.specs.Opened.{HasRoot, IsOpened}

-- files with a live body keep its facts
pub live_keeps : (schema : Schema) (live : Body) (facts : List Fact) (files : Files) → IsLive schema live facts files → KeepsAs live.format schema facts live.last files
live_keeps schema live facts files is = record { fits = is.fits; keeps = (is.slot, live, is.at) }

pub in_some : {format : ℕ} {schema : Schema} {facts : List Fact} {last : ℕ} {files : Files} → KeepsAs format schema facts last files → KeepsFacts schema facts last files
in_some {format} keeps = record { format = format; there = keeps }

-- the live body of files that keep facts has the format in which they do
pub body_format : {format : ℕ} (schema : Schema) (facts : List Fact) (last : ℕ) (files : Files) → KeepsAs format schema facts last files → (body : Body) → IsLiveBody body (files 0) → body.format ≡ format
body_format {format} schema facts last files is body live =
    ap (λ (b : Body). b.format) (one_live (held format schema facts last) is.keeps.0 is.keeps.1 body files is.keeps.2 live) ∙ is.keeps.2.body_is.format

-- after calls that change nothing a stop still leaves what a read gives
pub rests_stable : (old new : Disk) → Rests old new → IsStable old → IsStable new
rests_stable old new rests stable = λ files left.
    let was = rests.time.now files left in was.2 ∙ (stable was.0 was.1 ∙ sym rests.files)

-- and of the root file
pub rests_root : (old new : Disk) → Rests old new → RootIsStable old → RootIsStable new
rests_root old new rests stable = λ files left.
    let was = rests.time.now files left in ap (λ (f : Files). f 0) was.2 ∙ (stable was.0 was.1 ∙ ap (λ (f : Files). f 0) (sym rests.files))

pub all_stable : (disk : Disk) → IsStable disk → RootIsStable disk
all_stable disk stable = λ files left. ap (λ (f : Files). f 0) (stable files left)

-- what is known of opened files goes over such calls
pub rests_opened : (live : Body) (old new : Disk) → Rests old new → IsOpened live old → IsOpened live new
rests_opened live old new rests opened = record { stable = rests_root old new rests opened.stable; root = subst (HasRoot live) (sym rests.files) opened.root }

-- a live body is in the same slot in the files as read and in all that a stop may leave
pub live_now : (schema : Schema) (live : Body) (facts : List Fact) (disk : Disk) (now : HoldsNow (IsLive schema live facts) disk)
    → IsLiveNow (held live.format schema facts live.last) now.read.slot live disk
live_now schema live facts disk now = record {
  read = now.read.at;
  left = λ files left.
      let is = now.left files left in
      subst (λ slot. LiveAt (held live.format schema facts live.last) slot live files) (sym is.at.decodes.1.within.side ∙ now.read.at.decodes.1.within.side) is.at;
}
