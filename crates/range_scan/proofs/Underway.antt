-- A search under way: the pages visited so far, and those that are ahead.
use Rattle.std.proofs.Common.{◌≡◌, ◌≤◌, ◌<◌, ◌+◌, ◌++◌, ℕ, zero, suc, Bool, true, false, List, [], ◌∷◌, cond, filter, length, map, reverse, Result, Ok, Err, refl, sym, ap, ◌∙◌, subst, arith, append_assoc, append-nil, length-append}
use Rattle.std.specs.Prelude.{IfErr, IsErrAnd, flat_map, nat_lt}
use Rattle.std.specs.List.{All, list_all}
use Rattle.std.proofs.lemmas.Bool.{ltb-true}
use Rattle.std.proofs.lemmas.Grind.{flat_map-append}
use Rattle.std.proofs.lemmas.List.Elements.{All-nil, All-push}
use Rattle.cube_point.specs.declared.bounds.Region.{Region}
use Rattle.cube_point.specs.declared.point.Entry.{Entry}
use Rattle.cube_point.specs.declared.point.Shape.{Shape}
use Rattle.page_fmt.specs.declared.page.BadPage.{BadPage}
use Rattle.page_fmt.specs.declared.page.Child.{Child}
use Rattle.page_fmt.specs.declared.page.Head.{Head}
use Rattle.page_fmt.specs.declared.page.Node.{Node}
use Rattle.page_fmt.specs.declared.page.Node.TheVariants as nodes
use Rattle.page_fmt.specs.declared.page.Place.{Place}
use Rattle.page_fmt.specs.Taking.{children, taken}
use Rattle.page_entry.proofs.Tests.{and-both}
use Rattle.page_fmt.proofs.Laws.{children-fall}
use Rattle.page_fmt.specs.InFiles.{page_at}
use Rattle.page_cache.specs.Giving.{Cache}
use Rattle.page_cache.specs.Keeping.{HasRoom, unkept}
use Rattle.page_cache.proofs.Keeping.{length-unkept, room-before}
use Rattle.range_scan.specs.Meeting.{is_met}
use Rattle.range_scan.specs.Searching.{IsAnswer, IsFirstBad, IsSearched, IsSound, NamesPage}
use Rattle.range_scan.specs.Steps.{ExplainsStop, IsVisited}
use Rattle.range_scan.specs.Visits.{all_ways, below, found_in, held, held_if, hits, met, page_of, top_page, visits}
use Rattle.range_scan.specs.declared.walk.SearchStop.{SearchStop}
use Rattle.range_scan.specs.declared.walk.SearchStop.TheVariants as stops
use Rattle.range_scan.proofs.Downward.{AllBelow, ways-go_on}
use Rattle.range_scan.proofs.Lists.{reverse-push}

-- ---- children stand before their page, whatever its bytes are

met-falls : (region : Region) (own : ℕ) (cs : List Child) → list_all (λ (c : Child). nat_lt c.page own) cs ≡ true → AllBelow own (met region cs)
met-falls region own [] h = tt
met-falls region own (c ∷ cs) h =
    let both = and-both (nat_lt c.page own) (list_all (λ (c : Child). nat_lt c.page own) cs) h in
    one (is_met region c.bounds) (ltb-true c.page own both.0) (met-falls region own cs both.1)
  where
    one : (b : Bool) → c.page < own → AllBelow own (met region cs)
        → AllBelow own (map (λ (x : Child). x.page) (cond b (c ∷ filter (λ (x : Child). is_met region x.bounds) cs) (filter (λ (x : Child). is_met region x.bounds) cs)))
    one true lt rest = (lt, rest)
    one false lt rest = rest

pub page-falls : (shape : Shape) (bytes : List ℕ) (region : Region) (n : ℕ) → AllBelow n (below region (page_of shape bytes n))
unfolding page_of
page-falls shape bytes region n = by_page (taken shape n page) refl
  where
    page : List ℕ
    page = page_at bytes n

    by_node : (head : Head) (node : Node) → head.node ≡ node → taken shape n page ≡ Ok head → AllBelow n (below region (held shape page node))
    by_node head nodes.Leaf is e = tt
    by_node head nodes.Inner is e = met-falls region n (children shape page) (children-fall shape n page head e is)

    by_page : (r : Result Head BadPage) → taken shape n page ≡ r → AllBelow n (below region (held_if shape page r))
    by_page (Ok head) e = by_node head head.node refl e
    by_page (Err bad) e = tt

module _ (tree : Place) (region : Region) (bytes : List ℕ) where
  abbrev down : ℕ → List ℕ
  down n = all_ways region (page_of tree.shape bytes) n

  abbrev under : ℕ → List ℕ
  under n = below region (page_of tree.shape bytes n)

  -- the pages asked for are sound, and the ways from those ahead are left; the last of those comes next
  pub record IsUnderway (asked : List ℕ) (ahead : List ℕ) : Type 0 where
    pub split : visits tree region bytes ≡ asked ++ flat_map down (reverse ahead)
    pub sound : All (IsSound tree bytes) asked

  pub starts : (ahead : List ℕ) → ahead ≡ top_page tree.first tree.pages → IsUnderway [] ahead
  unfolding visits
  starts ahead top = record {
    split = ap (flat_map down) (same tree.pages ∙ ap reverse (sym top));
    sound = All-nil (IsSound tree bytes);
  }
    where
      same : (pages : ℕ) → top_page tree.first pages ≡ reverse (top_page tree.first pages)
      same zero = refl
      same (suc pages) = refl

  module _ (asked : List ℕ) (ahead rest : List ℕ) (number : ℕ) (top : ahead ≡ rest ++ number ∷ []) (so_far : IsUnderway asked ahead) where
    -- what is behind the next page
    abbrev behind : List ℕ
    behind = flat_map down (under number) ++ flat_map down (reverse rest)

    next-split : visits tree region bytes ≡ asked ++ number ∷ behind
    next-split =
        so_far.split ∙ (ap (λ l. asked ++ flat_map down l) (ap reverse top ∙ reverse-push rest number)
        ∙ ap (λ l. asked ++ (l ++ flat_map down (reverse rest))) (ways-go_on region (page_of tree.shape bytes) (page-falls tree.shape bytes region) number))

    pub more-asked : length asked + 1 ≤ length (visits tree region bytes)
    more-asked = omega (arith, ap length next-split, length-append asked (number ∷ behind))

    -- the pages asked for, and this one, come first
    to-next : visits tree region bytes ≡ (asked ++ number ∷ []) ++ behind
    to-next = next-split ∙ sym (append_assoc asked (number ∷ []) behind)

    pub room-next : (cache : Cache) (file : ℕ) → HasRoom cache file (visits tree region bytes) → HasRoom cache file (asked ++ number ∷ [])
    room-next cache file room = room-before cache file (asked ++ number ∷ []) behind (subst (HasRoom cache file) to-next room)

    pub unkept-next : (cache : Cache) (file : ℕ) → length (unkept cache file (asked ++ number ∷ [])) ≤ length (unkept cache file (visits tree region bytes))
    unkept-next cache file = omega (arith, ap (λ l. length (unkept cache file l)) to-next, length-unkept cache file (asked ++ number ∷ []) behind)

    pub one-more : (next : List ℕ) → IsVisited tree region bytes number rest next → IsUnderway (asked ++ number ∷ []) next
    one-more next visited =
        let ahead-is : flat_map down (reverse next) ≡ behind = ap (flat_map down) visited.goes_on ∙ flat_map-append down (under number) (reverse rest) in
        record {
          split = next-split ∙ (sym (append_assoc asked (number ∷ []) behind) ∙ ap (λ l. (asked ++ number ∷ []) ++ l) (sym ahead-is));
          sound = All-push (IsSound tree bytes) asked number so_far.sound visited.sound;
        }

    -- the next page is not sound, or there are no more pages in the tree
    pub first-bad : length asked ≤ tree.pages → (length asked < tree.pages → IsSound tree bytes number → ⊥) → IsFirstBad tree region bytes number
    first-bad few bad = record { before = asked; after = behind; split = next-split; sound = so_far.sound; few = few; bad = bad }

    pub stop-searched : length asked ≤ tree.pages → (stop : SearchStop) → NamesPage number 1 stop → ExplainsStop tree bytes number stop → IsSearched tree region bytes (Err stop)
    stop-searched few (stops.Damaged page) names bad =
        let same : number ≡ page = omega (arith, names.0, names.1) in
        subst (IsFirstBad tree region bytes) same (first-bad few (λ _. bad))
    stop-searched few stops.Disk names bad = tt
    stop-searched few stops.Memory names bad = tt

  -- behind what was given before come the points of one page more
  pub found-more : (es : List Entry) (asked : List ℕ) (number : ℕ)
      → (es ++ found_in tree region bytes asked) ++ hits region (page_of tree.shape bytes number) ≡ es ++ found_in tree region bytes (asked ++ number ∷ [])
  found-more es asked number =
      let hit : ℕ → List Entry = λ n. hits region (page_of tree.shape bytes n) in
      append_assoc es (flat_map hit asked) (hit number)
      ∙ ap (λ l. es ++ l) (sym (flat_map-append hit asked (number ∷ []) ∙ ap (λ l. flat_map hit asked ++ l) (append-nil (hit number))))

  -- no page is left
  module _ (asked : List ℕ) (ahead : List ℕ) (none : ahead ≡ []) (so_far : IsUnderway asked ahead) where
    pub all-asked : visits tree region bytes ≡ asked
    all-asked = so_far.split ∙ (ap (λ l. asked ++ flat_map down (reverse l)) none ∙ append-nil asked)

    pub finished : length asked ≤ tree.pages → IsAnswer tree region bytes (found_in tree region bytes (visits tree region bytes))
    finished few = record {
      sound = subst (All (IsSound tree bytes)) (sym all-asked) so_far.sound;
      few = omega (arith, few, ap length all-asked);
      points = refl;
    }

  pub asked-few : (asked : List ℕ) (ahead : List ℕ) → IsUnderway asked ahead → length asked ≤ length (visits tree region bytes)
  asked-few asked ahead so_far = omega (arith, ap length so_far.split, length-append asked (flat_map down (reverse ahead)))

  pub unkept-asked : (asked : List ℕ) (ahead : List ℕ) → IsUnderway asked ahead → (cache : Cache) (file : ℕ)
      → length (unkept cache file asked) ≤ length (unkept cache file (visits tree region bytes))
  unkept-asked asked ahead so_far cache file =
      omega (arith, ap (λ l. length (unkept cache file l)) so_far.split, length-unkept cache file asked (flat_map down (reverse ahead)))

  -- what is answered is this stop
  pub answered : (stop : SearchStop) (result : Result (Unit {0}) SearchStop) → IsErrAnd result (λ told. told ≡ stop) → IsSearched tree region bytes (Err stop) → IsSearched tree region bytes result
  answered stop (Ok done) is searched = absurd is
  answered stop (Err told) is searched = subst (λ (s : SearchStop). IsSearched tree region bytes (Err s)) (sym is) searched

-- damage at a page of the tree
pub named : {T : Type 0} (first pages number : ℕ) (stop : SearchStop) (result : Result T SearchStop) → IsErrAnd result (λ told. told ≡ stop)
    → first ≤ number → number < first + pages → NamesPage number 1 stop → IfErr result (NamesPage first pages)
named first pages number stop (Ok found) is low high names = tt
named first pages number (stops.Damaged page) (Err told) is low high names =
    subst (NamesPage first pages) (sym is) (omega (arith, low, names.0), omega (arith, high, names.1))
named first pages number stops.Disk (Err told) is low high names = subst (NamesPage first pages) (sym is) tt
named first pages number stops.Memory (Err told) is low high names = subst (NamesPage first pages) (sym is) tt
