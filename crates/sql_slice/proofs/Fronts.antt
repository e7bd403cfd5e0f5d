-- The fronts of keys stand in the order of the keys.
use Rattle.std.proofs.Common.{◌≡◌, ℕ, zero, suc, false, [], ◌∷◌, take, refl}
use Rattle.std.specs.declared.cmp.Ordering.{Ordering}
use Rattle.std.specs.declared.cmp.Ordering.TheVariants.{Less, Equal, Greater}
use Rattle.std.specs.Ordering.{is_gt, ordering_then}
use Rattle.fact_model.specs.Value.{Key, key_cmp, value_cmp}

pub front-not_greater : (w : ℕ) (a b : Key) → key_cmp a b ≡ Less → is_gt (key_cmp (take w a) (take w b)) ≡ false
front-not_greater zero a b l = refl
front-not_greater (suc w) [] [] l = refl
front-not_greater (suc w) [] (y ∷ b) l = refl
front-not_greater (suc w) (x ∷ a) [] l = cc
front-not_greater (suc w) (x ∷ a) (y ∷ b) l = by (value_cmp x y) l (front-not_greater w a b)
  where
    by : (r : Ordering) → ordering_then r (key_cmp a b) ≡ Less → (key_cmp a b ≡ Less → is_gt (key_cmp (take w a) (take w b)) ≡ false)
        → is_gt (ordering_then r (key_cmp (take w a) (take w b))) ≡ false
    by Less e rest = refl
    by Equal e rest = rest e
    by Greater e rest = cc
