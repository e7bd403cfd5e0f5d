-- What is known of a site of which no call fails.
use Rattle.std.specs.Prelude.{◌≡◌, ℕ, reverse}
use Rattle.site_core.specs.Disk.{Disk}
use Rattle.test_sites.specs.declared.sure_site.SureSite.{SureSite}
use Rattle.site_mem.specs.Counts.{Tally}
use Rattle.site_mem.specs.History.{texts_of}
use Rattle.test_sites.specs.Changes.{changed_disk}

abbrev pub sure_disk : SureSite → Disk
sure_disk site = changed_disk (texts_of site.files) site.told.items (reverse site.past.items)

-- its counts of faults, reads and writes
abbrev pub sure_tally : SureSite → Tally
sure_tally site = record { disk_faults = site.disk_faults; told_faults = site.told_faults; reads = site.reads; writes = site.writes }

-- how often a call found no memory
abbrev pub sure_starved : SureSite → ℕ
sure_starved site = site.starved

-- nothing was asked of the site yet
pub record IsUnasked (site : SureSite) : Type 0 where
  pub disk_faults : site.disk_faults ≡ 0
  pub told_faults : site.told_faults ≡ 0
  pub reads : site.reads ≡ 0
  pub writes : site.writes ≡ 0
  pub starved : sure_starved site ≡ 0
