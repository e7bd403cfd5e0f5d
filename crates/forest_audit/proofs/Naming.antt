-- The places that a verdict names.
use Rattle.std.proofs.Common.{◌≡◌, ◌≤◌, ◌<◌, ◌+◌, ◌%◌, ◌^◌, inl, inr, ℕ, zero, suc, Bool, true, false, cond, ◌∷◌, Some, None, filter, length, ap, sym, ◌∙◌, arith}
use Rattle.std.specs.List.{range_with_len}
use Rattle.site_core.specs.Disk.{Files}
use Rattle.attr_dict.specs.Book.{Book}
use Rattle.cube_schema.specs.declared.schema.Schema.{Schema}
use Rattle.cube_schema.specs.Lawful.{IsSchema}
use Rattle.forest_open.specs.Judging.{IsFound}
use Rattle.forest_root.specs.declared.body.Body.{Body}
use Rattle.forest_root.specs.declared.forest.Store.{Store}
use Rattle.forest_root.specs.Body.{IsBody}
use Rattle.select_map.specs.Views.{tree_number}
use Rattle.tree_scan.specs.Streaming.{first_of}
use Rattle.forest_audit.specs.declared.verdict.Verdict.{Verdict}
use Rattle.forest_audit.specs.declared.verdict.Verdict.TheVariants as verdicts
use Rattle.forest_audit.specs.Agreeing.{FindsWrong}
use Rattle.forest_audit.specs.Audited.{AllKeep, first_page, offset_of, tree_place}
use Rattle.forest_audit.specs.Reading.{IsFirstOf}
use Rattle.forest_audit.specs.Verdicts.{IsStoreVerdict, IsVerdict, NamesPage, NamesView}
use Rattle.forest_audit.proofs.Places.{number-low, tree-few}

-- the first of some numbers is below what all are below
first-low : (p : ℕ → Bool) (s n b x : ℕ) → s + n ≤ b → first_of (filter p (range_with_len s n)) ≡ Some x → x < b
first-low p s zero b x le e = absurd cc
first-low p s (suc n) b x le e = by (p s) e (first-low p (s + 1) n b x (omega (arith, le)))
  where
    some-in : (y z : ℕ) → Some y ≡ Some z → y ≡ z
    some-in y z q = cc

    by : (t : Bool) → first_of (cond t (s ∷ filter p (range_with_len (s + 1) n)) (filter p (range_with_len (s + 1) n))) ≡ Some x
        → (first_of (filter p (range_with_len (s + 1) n)) ≡ Some x → x < b) → x < b
    by true q later = omega (arith, le, some-in s x q)
    by false q later = later q

module _ (files : Files) (body : Body) (schema : Schema) (names : Book) (lawful : IsSchema schema) (within : IsBody (body.generation % 2) body) where
  pub page-few : (page : ℕ) → IsFirstOf files body schema names page → page ≤ 2 ^ 50
  page-few page first = omega (arith, first.first.inside, first.first.at, tree-few body schema lawful within first.tree first.inside)

  pub leaf-few : (v page : ℕ) → v < length schema.views → first_page files body schema names v ≡ Some page → page ≤ 2 ^ 50
  leaf-few v page lt is =
      let t = tree_number schema.views v in
      let place = tree_place body schema t in
      let low = first-low _ place.first place.pages (place.first + place.pages) page (omega arith) is in
      omega (arith, low, tree-few body schema lawful within t (number-low schema lawful v lt))

  pub named-page : (page : ℕ) (verdict : Verdict) → IsFirstOf files body schema names page → NamesPage body page verdict → IsStoreVerdict files body schema names verdict
  named-page page (verdicts.No file offset) first named =
      let at = named.1 (page-few page first) in
      inl (record { tree = first.tree; inside = first.inside; before = first.before; page = page; first = first.first; at_is = (λ i. (named.0 i, at i)) })
  named-page page verdicts.Empty first named = named
  named-page page verdicts.Yes first named = absurd named

  pub named-leaf : (v page : ℕ) (verdict : Verdict) → v < length schema.views → first_page files body schema names v ≡ Some page → NamesPage body page verdict → NamesView files body schema names v verdict
  named-leaf v page (verdicts.No file offset) lt is named = (named.0, named.1 (leaf-few v page lt is) ∙ ap offset_of (sym is))
  named-leaf v page verdicts.Empty lt is named = named
  named-leaf v page verdicts.Yes lt is named = named

  pub named-none : (v : ℕ) (verdict : Verdict) → first_page files body schema names v ≡ None → NamesPage body 0 verdict → NamesView files body schema names v verdict
  named-none v (verdicts.No file offset) is named = (named.0, named.1 (omega arith) ∙ ap offset_of (sym is))
  named-none v verdicts.Empty is named = named
  named-none v verdicts.Yes is named = named

  pub named-view : (v : ℕ) (verdict : Verdict) → AllKeep files body schema names → FindsWrong files body schema names (Some v) → NamesView files body schema names v verdict → IsStoreVerdict files body schema names verdict
  named-view v (verdicts.No file offset) trees wrong named =
      inr (record { trees = trees; view = v; inside = wrong.0; before = wrong.1; wrong = wrong.2; at_is = (λ i. (named.0 i, named.1 i)) })
  named-view v verdicts.Empty trees wrong named = named
  named-view v verdicts.Yes trees wrong named = absurd named

-- of files that are opened
pub opened-verdict : (files : Files) (store : Store) (verdict : Verdict) → IsFound files (Some store) → IsStoreVerdict files store.forest.body store.forest.schema store.dicts verdict → IsVerdict files verdict
opened-verdict files store verdicts.Empty found is = absurd is
opened-verdict files store verdicts.Yes found is = record { body = store.forest.body; schema = store.forest.schema; names = store.dicts; opens = record { live = found.0; opened = found.1 }; keeps = is }
opened-verdict files store (verdicts.No file offset) found is = inr (record { body = store.forest.body; schema = store.forest.schema; names = store.dicts; opens = record { live = found.0; opened = found.1 }; breaks = is })
