-- Files have one verdict alone.
use Rattle.std.proofs.Common.{◌≡◌, inl, inr, ℕ, ◌*◌, Some, refl, ap, sym, ◌∙◌, arith, subst, append-nil}
use Rattle.std.proofs.lemmas.Bool.{cases_lt}
use Rattle.site_core.specs.Disk.{Files}
use Rattle.attr_dict.specs.Book.{Book, no_names}
use Rattle.attr_dict.proofs.EntryReads.{read-only}
use Rattle.cube_schema.specs.declared.schema.Schema.{Schema}
use Rattle.forest_open.specs.Breaks.{BreaksAt}
use Rattle.forest_open.specs.Opening.{BreaksBody, Place}
use Rattle.forest_open.proofs.Openings.{break_one, one_break, opened_whole}
use Rattle.forest_root.specs.declared.body.Body.{Body}
use Rattle.forest_root.specs.Live.{NoneRaised}
use Rattle.forest_root.proofs.Answered.{live_damaged, live_none}
use Rattle.forest_root.proofs.One.{one_body}
use Rattle.audit_tree.proofs.Fronts.{audited-unbroken, broken-alone, tree-audited}
use Rattle.forest_audit.specs.declared.verdict.Verdict.{Verdict}
use Rattle.forest_audit.specs.declared.verdict.Verdict.TheVariants as verdicts
use Rattle.forest_audit.specs.Audited.{BreaksAudit, BreaksTree, IsAudited, TreeKeeps, first_page, offset_of, side_file, tree_counts, tree_place}
use Rattle.forest_audit.specs.Limits.{limits_in}
use Rattle.forest_audit.specs.Verdicts.{AreAudited, AreWrong, IsVerdict, OpensAs}

some-in : {A : Type 0} (x y : A) → Some x ≡ Some y → x ≡ y
some-in x y e = cc

module _ (files : Files) (body : Body) (schema : Schema) (names : Book) where
  -- a tree that keeps the rules has no first page that breaks one
  keeps-not : (t page : ℕ) → TreeKeeps files body schema names t → BreaksTree files body schema names t page → ⊥
  keeps-not t page keeps breaks =
      audited-unbroken (tree_place body schema t) (tree_counts body schema t) (limits_in schema names t) (files (side_file body))
      (tree-audited (tree_place body schema t) (tree_counts body schema t) (limits_in schema names t) (files (side_file body)) keeps) page breaks

  audited-whole : (at : Place) → IsAudited files body schema names → BreaksAudit files body schema names at → ⊥
  audited-whole at is (inl page) = keeps-not page.tree page.page (is.trees page.tree page.inside) page.first
  audited-whole at is (inr view) = view.wrong (is.views view.view view.inside)

  same-page : (t page other : ℕ) → BreaksTree files body schema names t page → BreaksTree files body schema names t other → page ≡ other
  same-page t page other one two = broken-alone (tree_place body schema t) (tree_counts body schema t) (limits_in schema names t) (files (side_file body)) page other one two

  breaks-alone : (p q : Place) → BreaksAudit files body schema names p → BreaksAudit files body schema names q → p ≡ q
  breaks-alone p q (inl one) (inl two) = elim (cases_lt one.tree two.tree) [
    | inl lt ↦ absurd (keeps-not one.tree one.page (two.before one.tree lt) one.first)
    | inr not ↦ elim (cases_lt two.tree one.tree) [
      | inl lt ↦ absurd (keeps-not two.tree two.page (one.before two.tree lt) two.first)
      | inr neither ↦
          let here : two.tree ≡ one.tree = omega (arith, not, neither) in
          let same = same-page one.tree one.page two.page one.first (subst (λ (t : ℕ). BreaksTree files body schema names t two.page) here two.first) in
          one.at_is ∙ (ap (λ (n : ℕ). (side_file body, 4096 * n)) same ∙ sym two.at_is)
    ]
  ]
  breaks-alone p q (inl one) (inr two) = absurd (keeps-not one.tree one.page (two.trees one.tree one.inside) one.first)
  breaks-alone p q (inr one) (inl two) = absurd (keeps-not two.tree two.page (one.trees two.tree two.inside) two.first)
  breaks-alone p q (inr one) (inr two) = elim (cases_lt one.view two.view) [
    | inl lt ↦ absurd (one.wrong (two.before one.view lt))
    | inr not ↦ elim (cases_lt two.view one.view) [
      | inl lt ↦ absurd (two.wrong (one.before two.view lt))
      | inr neither ↦
          let same : one.view ≡ two.view = omega (arith, not, neither) in
          one.at_is ∙ (ap (λ (v : ℕ). (side_file body, offset_of (first_page files body schema names v))) same ∙ sym two.at_is)
    ]
  ]

-- what files are opened as
module _ (files : Files) where
  one-names : (body : Body) (schema : Schema) (a b : Book) → OpensAs files body schema a → OpensAs files body schema b → a ≡ b
  one-names body schema a b one two =
      let read = one.opened.read in
      read.book ∙ sym (read-only (no_names schema) b _ read.es (read.are ∙ append-nil _) two.opened.read)

  -- and what schema
  pub one-schema : (body : Body) (s t : Schema) (a b : Book) → OpensAs files body s a → OpensAs files body t b → s ≡ t
  one-schema body s t a b one two = some-in s t (sym one.opened.declared.found ∙ two.opened.declared.found)

  -- two rules of opening and one of what was opened
  opened-not : (body : Body) (schema : Schema) (names : Book) (at : Place) → OpensAs files body schema names → BreaksAt files at → ⊥
  opened-not body schema names at opens (inl damaged) = live_damaged (files 0) body damaged.0 opens.live damaged.1
  opened-not body schema names at opens (inr other) =
      opened_whole body files at schema names opens.opened (subst (λ (b : Body). BreaksBody b files at) (one_body (files 0) other.0 body other.1 opens.live) other.2)

  one-break-at : (p q : Place) → BreaksAt files p → BreaksAt files q → p ≡ q
  one-break-at p q (inl one) two = one_break one.0 files p one.1 (inl one) ∙ sym (one_break one.0 files q one.1 two)
  one-break-at p q (inr one) (inl two) = one_break two.0 files p two.1 (inr one) ∙ sym (one_break two.0 files q two.1 (inl two))
  one-break-at p q (inr one) (inr two) = break_one one.0 files p q one.2 (subst (λ (b : Body). BreaksBody b files q) (one_body (files 0) two.0 one.0 two.1 one.1) two.2)

  none-not : (at : Place) → NoneRaised (files 0) → BreaksAt files at → ⊥
  none-not at none (inl damaged) = none damaged.0 damaged.1.low damaged.1.damaged.0
  none-not at none (inr other) = live_none (files 0) other.0 other.1 none

  -- the same generation
  pub transported : (P : Body → Schema → Book → Type 0) (b c : Body) (s t : Schema) (m n : Book) → OpensAs files b s m → OpensAs files c t n → P c t n → P b s m
  transported P b c s t m n one two p =
      let bodies = one_body (files 0) c b two.live one.live in
      let two' : OpensAs files b t n = subst (λ (x : Body). OpensAs files x t n) bodies two in
      let schemas : t ≡ s = one-schema b t s n m two' one in
      let two'' : OpensAs files b s n = subst (λ (x : Schema). OpensAs files b x n) schemas two' in
      let books : n ≡ m = one-names b s n m two'' one in
      subst (P b s) books (subst (λ (x : Schema). P b x n) schemas (subst (λ (x : Body). P x t n) bodies p))

  wrong-whole : (at : Place) → AreAudited files → AreWrong files at → ⊥
  wrong-whole at is wrong =
      audited-whole files is.body is.schema is.names at is.keeps
      (transported (λ b s n. BreaksAudit files b s n at) is.body wrong.body is.schema wrong.schema is.names wrong.names is.opens wrong.opens wrong.breaks)

  wrong-alone : (p q : Place) → AreWrong files p → AreWrong files q → p ≡ q
  wrong-alone p q one two =
      breaks-alone files one.body one.schema one.names p q one.breaks
      (transported (λ b s n. BreaksAudit files b s n q) one.body two.body one.schema two.schema one.names two.names one.opens two.opens two.breaks)

  no-same : (p q : Place) → p ≡ q → verdicts.No p.0 p.1 ≡ verdicts.No q.0 q.1
  no-same p q e = (λ i. verdicts.No (e i).0 (e i).1)

  pub one-verdict : (v w : Verdict) → IsVerdict files v → IsVerdict files w → v ≡ w
  one-verdict verdicts.Empty verdicts.Empty a b = refl
  one-verdict verdicts.Empty verdicts.Yes a b = absurd (live_none (files 0) b.body b.opens.live a)
  one-verdict verdicts.Empty (verdicts.No g r) a (inl b) = absurd (none-not (g, r) a b)
  one-verdict verdicts.Empty (verdicts.No g r) a (inr b) = absurd (live_none (files 0) b.body b.opens.live a)
  one-verdict verdicts.Yes verdicts.Empty a b = absurd (live_none (files 0) a.body a.opens.live b)
  one-verdict verdicts.Yes verdicts.Yes a b = refl
  one-verdict verdicts.Yes (verdicts.No g r) a (inl b) = absurd (opened-not a.body a.schema a.names (g, r) a.opens b)
  one-verdict verdicts.Yes (verdicts.No g r) a (inr b) = absurd (wrong-whole (g, r) a b)
  one-verdict (verdicts.No f o) verdicts.Empty (inl a) b = absurd (none-not (f, o) b a)
  one-verdict (verdicts.No f o) verdicts.Empty (inr a) b = absurd (live_none (files 0) a.body a.opens.live b)
  one-verdict (verdicts.No f o) verdicts.Yes (inl a) b = absurd (opened-not b.body b.schema b.names (f, o) b.opens a)
  one-verdict (verdicts.No f o) verdicts.Yes (inr a) b = absurd (wrong-whole (f, o) b a)
  one-verdict (verdicts.No f o) (verdicts.No g r) (inl a) (inl b) = no-same (f, o) (g, r) (one-break-at (f, o) (g, r) a b)
  one-verdict (verdicts.No f o) (verdicts.No g r) (inl a) (inr b) = absurd (opened-not b.body b.schema b.names (f, o) b.opens a)
  one-verdict (verdicts.No f o) (verdicts.No g r) (inr a) (inl b) = absurd (opened-not a.body a.schema a.names (g, r) a.opens b)
  one-verdict (verdicts.No f o) (verdicts.No g r) (inr a) (inr b) = no-same (f, o) (g, r) (wrong-alone (f, o) (g, r) a b)
