-- An audit by a session that stands for a world: its line is the plain machine's, and it reads no more than it may.
use Rattle.std.proofs.Common.{◌≡◌, ◌∙◌, ◌≤◌, ◌+◌, ℕ, List, length, Some, None, ap, arith, subst, sym}
use Rattle.cube_schema.specs.declared.schema.Schema.{Schema}
use Rattle.forest_audit.specs.Cost.{CostsAudit}
use Rattle.forest_audit.proofs.States.{state-answered}
use Rattle.forest_open.specs.Opening.{names_pages}
use Rattle.forest_root.specs.declared.forest.Store.{Store}
use Rattle.spec_store.specs.Held.{names_text}
use Rattle.spec_store.specs.Sides.{page_count}
use Rattle.spec_store.proofs.Standing.{live_keeps}
use Rattle.spec_crash.specs.Keeps.{Keeps}
use Rattle.spec_machine.specs.Machine.{audit_over}
use Rattle.spec_machine.specs.World.{Kept, Warehouse, World}
use Rattle.site_core.specs.Disk.{Disk, Files}
use Rattle.cube_state.specs.Audits.{AuditGives, audit_cost, verdict_text}
use Rattle.cube_state.specs.Moves.{format_of}
use Rattle.cube_state.specs.Session.{Belongs, Stands}
use Rattle.cube_state.specs.declared.state.State.{State}
use Rattle.cube_state.specs.declared.state.State.TheVariants.{Empty, Idle, Hollow, Pending}
use Rattle.cube_state.proofs.Standing.{attends_belongs, stands_read}

-- ---- the line

kept_line : (kept : Kept) (files : Files) (reply : List ℕ) → Keeps files kept → AuditGives files reply → reply ≡ audit_over kept
kept_line None files reply keeps is = is.said ∙ ap verdict_text ((state-answered files is.found is.right).nothing keeps)
kept_line (Some warehouse) files reply keeps is =
    is.said ∙ ap verdict_text ((state-answered files is.found is.right).kept warehouse.schema warehouse.facts warehouse.last keeps.lawful.schema keeps.lawful.accepted keeps.kept)

pub audit_line : (state : State) (disk : Disk) (world : World) (reply : List ℕ) → Stands state disk world → AuditGives disk.files reply → reply ≡ audit_over world.kept
audit_line state disk world reply stands = kept_line world.kept disk.files reply (stands_read state disk world stands)

-- ---- the reads

abbrev Reads : ℕ → ℕ → ℕ → Kept → Type 0
Reads old new format kept = new ≤ old + (audit_cost format kept).reads

belongs_reads : (store : Store) (disk : Disk) (warehouse : Warehouse) (old new : ℕ) → Belongs store disk warehouse → CostsAudit disk.files old new → Reads old new store.forest.body.format (Some warehouse)
belongs_reads store disk warehouse old new is costs =
    subst (λ (s : Schema). new ≤ old + (1 + names_pages (length (names_text s warehouse.facts)) + page_count store.forest.body.format s warehouse.facts)) is.schema
    (costs.kept store.forest.body.format store.forest.schema warehouse.facts store.forest.body.last store.forest.lawful is.stored.read.accepted
    (live_keeps store.forest.schema store.forest.body warehouse.facts disk.files is.stored.read.live))

empty_reads : (old new : ℕ) (format : ℕ) → new ≤ old + 1 → Reads old new format None
empty_reads old new format few = omega (arith, few)

pub audit_reads : (state : State) (disk : Disk) (world : World) (old new : ℕ) → Stands state disk world → CostsAudit disk.files old new → Reads old new (format_of state) world.kept
audit_reads Empty disk world old new is costs = subst (Reads old new 1) (sym is.0.kept) (empty_reads old new 1 (costs.nothing is.1.nothing))
audit_reads (Idle store) disk world old new is costs = subst (Reads old new store.forest.body.format) (sym is.1.kept) (belongs_reads store disk is.0 old new is.2 costs)
audit_reads (Hollow store) disk world old new is costs = subst (Reads old new store.forest.body.format) (sym is.1.kept) (belongs_reads store disk is.0 old new is.2 costs)
audit_reads (Pending r) disk world old new is costs =
    subst (Reads old new r.store.forest.body.format) (sym is.2.kept) (belongs_reads r.store disk is.0 old new (attends_belongs r disk is.0 is.1 is.3.attends) costs)
