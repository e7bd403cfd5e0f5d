-- What is told of the next page.
use Rattle.std.proofs.Common.{◌≡◌, ◌≤◌, ◌<◌, ◌+◌, ◌*◌, ◌/◌, ℕ, None, Some, Option, List, length, refl, ap, sym, ◌∙◌, arith, subst}
use Rattle.std.proofs.Math.Nat.{div-add-mod'}
use Rattle.cube_point.specs.declared.point.Point.{Point}
use Rattle.cube_point.specs.declared.point.Shape.{Shape}
use Rattle.spec_tree.specs.Levels.{full_level, rest_level}
use Rattle.page_fmt.specs.declared.page.Place.{Place}
use Rattle.page_fmt.specs.InFiles.{IsPageOf, page_at}
use Rattle.page_entry.specs.Bytes.{entry_size}
use Rattle.page_fmt.specs.Trees.{fanout_of, room_of}
use Rattle.page_fmt.specs.Writing.{IsShape}
use Rattle.page_fmt.proofs.Rooms.{room-some}
use Rattle.tree_pack.specs.Moving.{Moving}
use Rattle.tree_scan.specs.Scanning.{ArePoints, leaf_entries}
use Rattle.tree_scan.specs.Streaming.{MayCome, last_point}
use Rattle.tree_scan.proofs.Streaming.{page-few}
use Rattle.audit_tree.specs.declared.stop.TreeStop.{TreeStop}
use Rattle.audit_tree.specs.declared.stop.TreeStop.TheVariants as stops
use Rattle.audit_tree.specs.Auditing.{IsAuditing, IsSafe}
use Rattle.audit_tree.specs.Broken.{AreFew, IsBrokenAt, NamesPage, TellsBroken}
use Rattle.audit_tree.specs.Fitting.{Fits}
use Rattle.audit_tree.specs.Packed.{AreAudited}
use Rattle.audit_tree.proofs.Arities.{Leaves, leaves-cases, leaves_none, leaves_some}
use Rattle.audit_tree.proofs.Going.{Follows, bad-more, fits-goes, follows, follows-full, follows-leaf, follows-rest, good-more}

pub rooms : (shape : Shape) → IsShape shape → (arity : ℕ) → arity < 9 → 0 < room_of shape arity
rooms shape is arity lt = let some = room-some arity shape (omega (arith, lt)) is.measures in omega (arith, some)

few-rooms : (shape : Shape) → IsShape shape → (arity : ℕ) → room_of shape arity < 65536
few-rooms shape is arity =
    let size = entry_size arity shape in
    let split : 4088 / size * size + _ ≡ 4088 = div-add-mod' 4088 size in
    let few = page-few (room_of shape arity) arity shape is.some (omega (arith, split)) in
    omega (arith, few)

module _ (place : Place) (counts : List ℕ) (limits : List (List ℕ)) (bytes : List ℕ) (n number : ℕ) (here : place.first + n ≡ number)
    (left : List ℕ) (last : Option Point) (m : Moving) (safe : IsSafe place.shape left m) (is : IsAuditing place counts limits bytes n left last m) (shape : IsShape place.shape) where
  -- on behind a page that fits
  pub goes-on : (page : List ℕ) → IsPageOf bytes number page → MayCome place.shape number page last → ArePoints place.shape (leaf_entries place.shape page) → length (leaf_entries place.shape page) ≤ 73
      → (to : List ℕ) (point : Option Point) (w : Moving) → point ≡ last_point last (leaf_entries place.shape page) → Fits place.shape limits left m page to w → IsAuditing place counts limits bytes (n + 1) to point w
  goes-on page there may points few to point w point_is fits =
      let good = good-more place bytes n number here last page is.good is.last_is there may points few in
      let at : page ≡ page_at bytes number = there.bytes_are in
      let moved = fits-goes place counts limits bytes n number here left last m safe is good.0 (ap (λ (p : List ℕ). last_point last (leaf_entries place.shape p)) (sym at) ∙ good.1) (rooms place.shape shape)
      (subst (λ (p : List ℕ). Fits place.shape limits left m p to w) at fits) in
      subst (λ (o : Option Point). IsAuditing place counts limits bytes (n + 1) to o w) (ap (λ (p : List ℕ). last_point last (leaf_entries place.shape p)) (sym at) ∙ sym point_is) moved

  module _ (few : AreFew counts) (audited : AreAudited place counts limits bytes (n + 1)) where
    by-left : full_level (fanout_of place.shape) m.levels ≡ None → Leaves left → Follows place counts limits bytes n number here left last m safe is
    by-left none (leaves_none nothing) = follows-rest place counts limits bytes n number here left last m safe is shape few audited none nothing (rest_level m.levels) refl
    by-left none (leaves_some {arity = arity} next) =
        follows-leaf place counts limits bytes n number here left last m safe is shape few audited none arity next (rooms place.shape shape arity next.nine) (few-rooms place.shape shape arity)

    by-full : (o : Option ℕ) → full_level (fanout_of place.shape) m.levels ≡ o → Follows place counts limits bytes n number here left last m safe is
    by-full (Some i) full = follows-full place counts limits bytes n number here left last m safe is shape few audited i full
    by-full None none = by-left none (leaves-cases left)

    pub page-follows : Follows place counts limits bytes n number here left last m safe is
    page-follows = by-full (full_level (fanout_of place.shape) m.levels) refl

  -- a page that does not fit breaks a rule
  pub not-audited : AreFew counts → (page : List ℕ) → page ≡ page_at bytes number → ((to : List ℕ) (w : Moving) → Fits place.shape limits left m page to w → ⊥) → AreAudited place counts limits bytes (n + 1) → ⊥
  not-audited few page at not audited = none-follows (page-follows few audited)
    where
      none-follows : Follows place counts limits bytes n number here left last m safe is → ⊥
      none-follows (follows {to = to} {w = w} fits) = not to w (subst (λ (p : List ℕ). Fits place.shape limits left m p to w) (sym at) fits)

  pub broken-told : AreFew counts → (page : List ℕ) → page ≡ page_at bytes number → (stop : TreeStop)
      → ((told : ℕ) → stop ≡ stops.Broken told → (told ≡ number) × ((to : List ℕ) (w : Moving) → Fits place.shape limits left m page to w → ⊥)) → IsBrokenAt place counts limits bytes n stop
  broken-told few page at (stops.Broken told) only = let one = only told refl in (one.0 ∙ sym here, not-audited few page at one.1)
  broken-told few page at stops.Disk only = tt
  broken-told few page at stops.Memory only = tt

  -- nor one that is not accepted
  pub bad-told : (page : List ℕ) → page ≡ page_at bytes number → (MayCome place.shape number page last → ⊥) → AreAudited place counts limits bytes (n + 1) → ⊥
  bad-told page at not audited = bad-more place bytes n number here last is.good is.last_is audited.good (λ may. not (subst (λ (p : List ℕ). MayCome place.shape number p last) (sym at) may))

-- the page that ends an audit is the first that breaks a rule
pub ending-told : (place : Place) (counts : List ℕ) (limits : List (List ℕ)) (bytes : List ℕ) (n : ℕ) → n < place.pages → AreAudited place counts limits bytes n
    → (stop : TreeStop) → IsBrokenAt place counts limits bytes n stop → TellsBroken place counts limits bytes stop
ending-told place counts limits bytes n inside kept (stops.Broken told) broken = record { before = n; at = sym broken.0; inside = inside; kept = kept; broken = broken.1 }
ending-told place counts limits bytes n inside kept stops.Disk broken = tt
ending-told place counts limits bytes n inside kept stops.Memory broken = tt

-- a page that the file does not have whole breaks a rule
pub short-told : (place : Place) (counts : List ℕ) (limits : List (List ℕ)) (bytes : List ℕ) (n number : ℕ) → place.first + n ≡ number
    → (stop : TreeStop) → NamesPage number stop → (stop ≡ stops.Broken number → length bytes < 4096 * (number + 1)) → IsBrokenAt place counts limits bytes n stop
short-told place counts limits bytes n number here (stops.Broken told) named short =
    (named ∙ sym here, λ audited. let whole = (audited.good number (omega (arith, here)) (omega (arith, here))).whole in omega (arith, whole, short (ap stops.Broken named)))
short-told place counts limits bytes n number here stops.Disk named short = tt
short-told place counts limits bytes n number here stops.Memory named short = tt
