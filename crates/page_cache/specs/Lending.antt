-- What a cache is, once the page that it lent is no longer used.
use Rattle.std.specs.Prelude.{◌≡◌, ⊤, Result, MatchResult}
use Rattle.std.specs.Borrow.{Fml, MutBor, follows_so}
use mathlib.Core.Option.{none}
use Rattle.page_cache.specs.Giving.{Cache, Name, used}
use Rattle.page_cache.specs.declared.cache.Accepted.{Accepted}
use Rattle.page_cache.specs.contracts.cache.Pages.{the_row}

-- the page that was given is the one last used; after an error the cache ends as it was
abbrev pub EndsUsed : {E : Type 0} → MutBor Cache → Name → Result Accepted E → Fml
EndsUsed c name result = follows_so the_row the_row c.ghost_name none (λ _ _. ⊤) (λ n. MatchResult result
    (λ page. n ≡ record { capacity = c.now.capacity; kept = used c.now.capacity name page.bytes.now c.now.kept })
    (λ _. n ≡ c.now))
