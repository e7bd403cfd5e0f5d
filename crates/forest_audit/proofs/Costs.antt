-- The reads of an audit, by what the files keep.
use Rattle.std.proofs.Common.{◌≡◌, ◌≤◌, ◌+◌, ◌*◌, ℕ, List, length, ap, sym, ◌∙◌, arith}
use Rattle.site_core.specs.Disk.{Files}
use Rattle.cube_schema.specs.Lawful.{IsSchema}
use Rattle.cube_schema.specs.declared.schema.Schema.{Schema}
use Rattle.fact_model.specs.declared.fact.Fact.{Fact}
use Rattle.forest_open.specs.Opening.{names_pages}
use Rattle.forest_open.proofs.Openings.{book_of, kept_opened, live_body, names_counted}
use Rattle.spec_forest.specs.Forest.{forest}
use Rattle.spec_forest.proofs.Scanned.{forest-long}
use Rattle.forest_root.specs.Forest.{pages_of_all}
use Rattle.forest_root.specs.Keeps.{KeepsNothing}
use Rattle.forest_root.specs.declared.body.Body.{Body}
use Rattle.forest_root.proofs.Answered.{live_none}
use Rattle.spec_store.specs.Held.{AreAccepted, IsLive, KeepsAs, names_text}
use Rattle.spec_store.specs.Sides.{page_count, page_total}
use Rattle.spec_store.proofs.Standing.{body_format, in_some}
use Rattle.spec_store.proofs.Storable.{storable}
use Rattle.forest_audit.specs.Audited.{trees_of}
use Rattle.forest_audit.specs.Cost.{CostsAudit, HaveFewPages}
use Rattle.forest_audit.specs.Verdicts.{OpensAs}
use Rattle.forest_audit.proofs.Apart.{one-schema}

-- the trees of facts have the pages of their forest
total-is : (schema : Schema) (lawful : IsSchema schema) (facts : List Fact) (accepted : AreAccepted schema facts) (body : Body) (files : Files) → IsLive schema body facts files → page_total body schema ≡ page_count body.format schema facts
total-is schema lawful facts accepted body files live =
    let long : length (forest body.format schema facts) ≡ 4096 * page_total body schema
    = forest-long schema lawful facts (storable schema facts lawful accepted body.format live.fits)
    ∙ ap (λ (counts : List ℕ). 4096 * pages_of_all body.format schema counts (trees_of schema)) (sym live.at.body_is.counts) in
    omega (arith, long)

-- files that keep no schema have no such pages
nothing-few : (files : Files) → KeepsNothing files → HaveFewPages files 0 0
nothing-few files none = record {
  names_few = λ body live. absurd (live_none (files 0) body live none);
  trees_few = λ body schema book opens. absurd (live_none (files 0) body opens.live none);
}

-- and those that keep facts have the pages of their names and of their forest
kept-few : (format : ℕ) (schema : Schema) (facts : List Fact) (last : ℕ) (files : Files) → IsSchema schema → AreAccepted schema facts → KeepsAs format schema facts last files
    → HaveFewPages files (names_pages (length (names_text schema facts))) (page_count format schema facts)
kept-few format schema facts last files lawful accepted keeps = record {
  names_few = λ body live.
      let same : names_pages body.names_len ≡ names_pages (length (names_text schema facts)) = ap names_pages (names_counted schema facts last body files (in_some keeps) live) in
      omega (arith, same);
  trees_few = λ body other book opens.
      let live : IsLive schema body facts files = live_body schema facts last body files (in_some keeps) opens.live in
      let own : OpensAs files body schema (book_of schema facts) = record { live = opens.live; opened = kept_opened schema facts lawful accepted body files live } in
      let same : page_total body other ≡ page_total body schema = ap (page_total body) (one-schema files body other schema book (book_of schema facts) opens own) in
      let many : page_total body schema ≡ page_count format schema facts = total-is schema lawful facts accepted body files live ∙ ap (λ f. page_count f schema facts) (body_format schema facts last files keeps body opens.live) in
      omega (arith, same, many);
}

pub audit-costs : (files : Files) (old new : ℕ) → ((names trees : ℕ) → HaveFewPages files names trees → new ≤ old + (1 + names + trees)) → CostsAudit files old new
audit-costs files old new all = record {
  whatever = all;
  nothing = λ none. omega (arith, all 0 0 (nothing-few files none));
  kept = λ format schema facts last lawful accepted keeps. all (names_pages (length (names_text schema facts))) (page_count format schema facts) (kept-few format schema facts last files lawful accepted keeps);
}
