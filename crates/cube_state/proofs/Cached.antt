-- Kept pages fit as long as the live side stays.
use Rattle.std.proofs.Common.{◌≡◌, ◌==◌, ◌+◌, ℕ, Bool, true, false, cond, get_or, length, List, [], Option, Some, None, Result, Ok, Err, OnOk, ap, subst, sym, arith, rules}
use Rattle.std.specs.Prelude.{◌≢◌}
use Rattle.std.specs.List.{All}
use Rattle.site_core.specs.Disk.{DiffersPast, Files}
use Rattle.page_fmt.specs.InFiles.{IsPageOf}
use Rattle.forest_refresh.specs.Begun.{next_side}
use Rattle.forest_root.specs.declared.body.Body.{Body}
use Rattle.spec_store.specs.Sides.{side_of}
use Rattle.page_cache.specs.Giving.{Cache, Name}
use Rattle.page_cache.specs.Keeping.{Agrees, LiesIn}
use Rattle.cube_state.specs.Cached.{AreLive, FitsLive, SideStays, emptied, generation, kept_over, live_file}
use Rattle.cube_state.specs.declared.stop.Stop.{Stop}

-- ---- pages of one file

-- they are as a read gives them still, where the file is the same
still_agree : (old new : Files) (file : ℕ) → new file ≡ old file → (cache : Cache) → LiesIn file cache → Agrees old cache → Agrees new cache
still_agree old new file same cache lie agree = λ k default lt.
    let page = get_or cache.kept k default in
    let its : page.0.0 ≡ file = lie k default lt in
    let here = subst (λ (bytes : List ℕ). IsPageOf bytes page.0.1 page.1) (sym same) (subst (λ (f : ℕ). IsPageOf (old f) page.0.1 page.1) its (agree k default lt)) in
    subst (λ (f : ℕ). IsPageOf (new f) page.0.1 page.1) (sym its) here

-- nothing has to be shown of none
none_all : (P : Name × List ℕ → Type 0) (kept : List (Name × List ℕ)) → kept ≡ [] → All P kept
none_all P kept none = λ k default lt. absurd (omega (arith, lt, ap length none))

none_live : (live : Body) (files : Files) (cache : Cache) → cache.kept ≡ [] → AreLive live files cache
none_live live files cache none = record {
  lie = none_all (λ (k : Name × List ℕ). k.0.0 ≡ side_of live) cache.kept none;
  agree = none_all (λ (k : Name × List ℕ). IsPageOf (files k.0.0) k.0.1 k.1) cache.kept none;
}

pub none_fit : (live : Option Body) (files : Files) (cache : Cache) → cache.kept ≡ [] → FitsLive live files cache
none_fit None files cache none = none
none_fit (Some body) files cache none = none_live body files cache none

-- ---- what is live

-- pages that fit a side fit it as long as it stays
pub side_fits : (live : Option Body) (old new : Files) (cache : Cache) → SideStays live old new → FitsLive live old cache → FitsLive live new cache
side_fits None old new cache same is = is
side_fits (Some body) old new cache same is = record { lie = is.lie; agree = still_agree old new (side_of body) same cache is.lie is.agree }

-- a live side is neither the root file nor the side of the next generation
pub live_no_root : (live : Option Body) → live_file live ≢ 0
live_no_root None is = absurd (omega (arith, is))
live_no_root (Some body) is = absurd (omega (arith, is))

next_no_live : (body : Body) → side_of body ≢ next_side body
next_no_live body is = absurd (omega (arith, is))

pub spared_stays : (body : Body) (old new : Files) → DiffersPast (next_side body) 0 old new → SideStays (Some body) old new
spared_stays body old new differs = differs.others (side_of body) (next_no_live body)

-- ---- what is kept from one live body to another

same_number : (n : ℕ) → (n == n) ≡ true
same_number n = search (rules)

next_number : (m n : ℕ) → n ≡ m + 1 → (m == n) ≡ false
next_number m n one = search (rules)

-- all, where it is of the same generation
pub kept_same : (live next : Option Body) (cache : Cache) → generation next ≡ generation live → kept_over live next cache ≡ cache
kept_same live next cache same =
    subst (λ (n : ℕ). cond (generation live == n) cache (emptied cache) ≡ cache) (sym same) (ap (λ (is : Bool). cond is cache (emptied cache)) (same_number (generation live)))

-- nothing, where it is of the next one
pub kept_none : (live next : Option Body) (cache : Cache) → generation next ≡ generation live + 1 → kept_over live next cache ≡ emptied cache
kept_none live next cache one = ap (λ (is : Bool). cond is cache (emptied cache)) (next_number (generation live) (generation next) one)

-- ---- behind a command

pub holds : {A : Type 0} {P : Type 0} (result : Result A Stop) → P → OnOk result P
holds (Ok reply) is = is
holds (Err stop) is = tt

-- where none is kept, none has to fit
pub emptied_fits : (live : Option Body) (files : Files) (old new : Cache) → new ≡ emptied old → FitsLive live files new
emptied_fits live files old new is = none_fit live files new (ap (λ (c : Cache). c.kept) is)
