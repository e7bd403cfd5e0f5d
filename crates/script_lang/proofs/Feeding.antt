-- What feeding and ending leave to come.
use Rattle.std.proofs.Common.{◌≡◌, ℕ, true, false, cond, List, [], ◌++◌, sym, ◌∙◌, ap, append_assoc, append-nil}
use Rattle.script_lang.specs.Reading.{Reading, commands_from, with_more, to_come, whole_with, ready}

-- bytes that are fed are no longer to be fed
pub fed : (old new : Reading) (piece more : List ℕ) → old.over ≡ false → new ≡ with_more old piece
    → to_come old (piece ++ more) ≡ to_come new more
fed old new piece more goes_on is =
    ap (λ b. commands_from true old.place (old.rest ++ cond b [] (piece ++ more))) goes_on
    ∙ ap (commands_from true old.place) (sym (append_assoc old.rest piece more))
    ∙ ap (λ b. commands_from true old.place ((old.rest ++ piece) ++ cond b [] more)) (sym goes_on)
    ∙ ap (λ (r : Reading). to_come r more) (sym is)

pub fed_whole : (old new : Reading) (piece more : List ℕ) → new ≡ with_more old piece
    → whole_with old (piece ++ more) ≡ whole_with new more
fed_whole old new piece more is =
    ap (commands_from false old.place) (sym (append_assoc old.rest piece more)) ∙ ap (λ (r : Reading). whole_with r more) (sym is)

-- where no command is whole, none is whole without more
pub none_whole : (r : Reading) → r.over ≡ false → ready r ≡ [] → whole_with r [] ≡ []
none_whole r over none =
    ap (commands_from false r.place) (append-nil r.rest) ∙ ap (λ b. commands_from b r.place r.rest) (sym over) ∙ none

-- at the end nothing more is fed
pub ended : (old new : Reading) → old.over ≡ false
    → new ≡ record { over = true; place = old.place; rest = old.rest } → to_come old [] ≡ to_come new []
ended old new goes_on is = ap (λ b. commands_from true old.place (old.rest ++ cond b [] [])) goes_on
    ∙ ap (λ (r : Reading). to_come r []) (sym is)

-- at the end all is given
pub none_to_come : (r : Reading) → r.over ≡ true → ready r ≡ [] → to_come r [] ≡ []
none_to_come r over none =
    ap (λ b. commands_from true r.place (r.rest ++ cond b [] [])) over
    ∙ ap (commands_from true r.place) (append-nil r.rest)
    ∙ ap (λ b. commands_from b r.place r.rest) (sym over)
    ∙ none
