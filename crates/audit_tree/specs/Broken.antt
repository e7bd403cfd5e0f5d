-- The first page of a tree that breaks a rule.
use Rattle.std.specs.Prelude.{◌≡◌, ◌≤◌, ◌<◌, ◌+◌, ◌^◌, ℕ, List, slice_index}
use Rattle.page_fmt.specs.declared.page.Place.{Place}
use Rattle.audit_tree.specs.declared.stop.TreeStop.{TreeStop}
use Rattle.audit_tree.specs.declared.stop.TreeStop.TheVariants as stops
use Rattle.audit_tree.specs.Packed.{AreAudited}

-- the pages before it keep the rules, and with it they do not
pub record IsFirstBroken (place : Place) (counts : List ℕ) (limits : List (List ℕ)) (bytes : List ℕ) (number : ℕ) : Type 0 where
  pub before : ℕ
  pub at : place.first + before ≡ number
  pub inside : before < place.pages
  pub kept : AreAudited place counts limits bytes before
  pub broken : AreAudited place counts limits bytes (before + 1) → ⊥

-- a page that is told is the first
abbrev pub TellsBroken : Place → List ℕ → List (List ℕ) → List ℕ → TreeStop → Type 0
TellsBroken place counts limits bytes (stops.Broken page) = IsFirstBroken place counts limits bytes page
TellsBroken place counts limits bytes stops.Disk = Unit {0}
TellsBroken place counts limits bytes stops.Memory = Unit {0}

-- a page that is told is the one behind the first n, which keep the rules no more with it
abbrev pub IsBrokenAt : Place → List ℕ → List (List ℕ) → List ℕ → ℕ → TreeStop → Type 0
IsBrokenAt place counts limits bytes n (stops.Broken page) = (page ≡ place.first + n) × (AreAudited place counts limits bytes (n + 1) → ⊥)
IsBrokenAt place counts limits bytes n stops.Disk = Unit {0}
IsBrokenAt place counts limits bytes n stops.Memory = Unit {0}

-- a page that is told is this one
abbrev pub NamesPage : ℕ → TreeStop → Type 0
NamesPage number (stops.Broken page) = page ≡ number
NamesPage number stops.Disk = Unit {0}
NamesPage number stops.Memory = Unit {0}

-- numbers of points that a body may have
abbrev pub AreFew : List ℕ → Type 0
AreFew counts = (i : ℕ) → slice_index counts i ≤ 2 ^ 40
