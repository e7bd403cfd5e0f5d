-- What is known of a site of which one read gives a byte fewer.
use Rattle.std.specs.Prelude.{ℕ, ◌-◌, Bool, false, ◌==◌, if◌then◌else◌, Option, Some, None}
use Rattle.site_mem.specs.declared.site.MemorySite.{MemorySite}
use Rattle.test_sites.specs.declared.short_site.ShortSite.{ShortSite}
use Rattle.site_mem.specs.Counts.{Tally}
use Rattle.site_mem.specs.Site.{site_number, site_tally}

-- the site below
abbrev pub site_below : ShortSite → MemorySite
site_below short = short.site

-- its counts of faults, reads and writes
abbrev pub tally_below : ShortSite → Tally
tally_below short = site_tally (site_below short)

-- the number of the call that is to give a byte fewer, if there is one
abbrev pub short_call : ShortSite → Option ℕ
short_call short = short.short

-- this number is the one that was asked for
abbrev pub is_asked : Option ℕ → ℕ → Bool
is_asked None number = false
is_asked (Some asked) number = asked == number

-- how many bytes a read now gives where the site below gives so many
abbrev pub shortened : ShortSite → ℕ → ℕ
shortened short count = if is_asked (short_call short) (site_number (site_below short)) then count - 1 else count
