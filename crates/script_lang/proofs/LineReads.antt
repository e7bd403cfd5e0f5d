-- A reading that goes on by one line, or by what is there of it.
use Rattle.std.proofs.Common.{◌≡◌, ◌<◌, ◌≤◌, ◌≢◌, ℕ, ◌+◌, Bool, true, false, cond, Option, List, [], ◌∷◌, ◌++◌, length, take, drop, sym, ◌∙◌, ap, subst, append-nil, arith, option_to_list, drop-drop, length-drop, length-take-le, Result, Ok, Err, OnErr, IfOk}
use Rattle.script_lang.specs.declared.command.Command.{Command}
use Rattle.script_lang.specs.Script.{lines_from, after_line, commands_in}
use Rattle.script_lang.specs.Place.{Place}
use Rattle.script_lang.specs.Reading.{Reading, IsReading, GoesOnAs, unread_in, commands_from, to_come, whole_with, ready}
use Rattle.script_lang.proofs.Feeds.{to_feed, line_goes_on, feed_there}

pub on_err : {T E : Type 0} (r : Result T E) (P : Type 0) → P → OnErr r P
on_err (Ok x) P p = tt
on_err (Err e) P p = p

pub as_before : (now next place : Place) → now ≡ next → GoesOnAs next place → GoesOnAs now place
as_before now next place is goes over bytes = ap (λ (p : Place). commands_from over p bytes) is ∙ goes over bytes

abbrev pub reading : Bool → Place → List ℕ → Reading
reading over place rest = record { over = over; place = place; rest = rest }

module _ (now : Reading) (over : Bool) (place next : Place) (buffer slice rest front : List ℕ) (at end count : ℕ)
    (view : reading over place (unread_in at end buffer) ≡ now) (all : slice ≡ buffer) (rest_is : rest ≡ unread_in at end slice)
    (to : count ≡ to_feed rest) (front_is : front ≡ take count rest)
    (extended : GoesOnAs next (record { block = place.block; line = place.line ++ front })) where
  abbrev pub fed : List ℕ
  fed = take end buffer

  left : rest ≡ drop at fed
  left = rest_is ∙ ap (unread_in at end) all

  went_on : (ends : Bool) (more : List ℕ)
      → commands_from ends place (rest ++ more) ≡ commands_from ends next (drop count rest ++ more)
  went_on ends more =
      ap (commands_in ends place.block) (line_goes_on ends rest place.line more)
      ∙ ap (λ k. commands_in ends place.block (lines_from ends (place.line ++ take k rest) (drop k rest ++ more)))
      (sym to)
      ∙ ap (λ (l : List ℕ). commands_in ends place.block (lines_from ends (place.line ++ l) (drop count rest ++ more))) (sym front_is)
      ∙ sym (extended ends (drop count rest ++ more))

  on : drop count rest ≡ drop (at + count) fed
  on = ap (λ (l : List ℕ). drop count l) left ∙ drop-drop count at fed

  from : (ends : Bool) (more : List ℕ)
      → commands_from ends place (drop at fed ++ more) ≡ commands_from ends next (drop (at + count) fed ++ more)
  from ends more = ap (λ (l : List ℕ). commands_from ends place (l ++ more)) (sym left) ∙ went_on ends more
      ∙ ap (λ (l : List ℕ). commands_from ends next (l ++ more)) on

  pub moved : (more : List ℕ) → to_come now more ≡ to_come (reading over next (drop (at + count) fed)) more
  moved more = ap (λ (r : Reading). to_come r more) (sym view) ∙ from true (cond over [] more)

  pub moved_back : (more : List ℕ) → to_come (reading over next (drop (at + count) fed)) more ≡ to_come now more
  moved_back more = sym (moved more)

  pub moved_ready : ready now ≡ ready (reading over next (drop (at + count) fed))
  moved_ready = ap ready (sym view) ∙ ap (commands_from over place) (sym (append-nil (drop at fed))) ∙ from over []
      ∙ ap (commands_from over next) (append-nil (drop (at + count) fed))

  pub moved_whole : (more : List ℕ) → whole_with now more ≡ whole_with (reading over next (drop (at + count) fed)) more
  moved_whole more = ap (λ (r : Reading). whole_with r more) (sym view) ∙ from false more

  pub moved_whole_back : (more : List ℕ) → whole_with (reading over next (drop (at + count) fed)) more ≡ whole_with now more
  moved_whole_back more = sym (moved_whole more)

  module _ (inside : at + count ≢ end) (fits : count ≤ length rest) (window : IsReading at end buffer place)
      (last : Place) (command : Option Command) (gives : command ≡ (after_line next.block next.line).0)
      (is : last ≡ record { block = (after_line next.block next.line).1; line = [] }) where
    there : drop (at + count) fed ≡ 10 ∷ drop (at + count + 1) fed
    there =
        let lt : to_feed rest < length rest = omega
        (arith, inside, to, fits, ap length left, length-drop at fed, length-take-le end buffer window.within) in
        let at_feed : drop count rest
        ≡ 10 ∷ drop (count + 1) rest = subst (λ k. drop k rest ≡ 10 ∷ drop (k + 1) rest) (sym to)
        (feed_there rest lt) in
        sym on ∙ at_feed ∙ ap (λ (l : List ℕ). 10 ∷ drop (count + 1) l) left
        ∙ ap (λ (l : List ℕ). 10 ∷ l) (drop-drop (count + 1) at fed ∙ ap (λ k. drop k fed) (omega arith))

    given : (ends : Bool) (more : List ℕ)
        → commands_from ends place (drop at fed ++ more)
        ≡ option_to_list command ++ commands_from ends last (drop (at + count + 1) fed ++ more)
    given ends more = from ends more ∙ ap (λ (l : List ℕ). commands_from ends next (l ++ more)) there
        ∙ ap (λ (p : Place). option_to_list (after_line next.block next.line).0 ++ commands_from ends p (drop (at + count + 1) fed ++ more)) (sym is)
        ∙ ap (λ (c : Option Command). option_to_list c ++ commands_from ends last (drop (at + count + 1) fed ++ more)) (sym gives)

    pub gave : (more : List ℕ)
        → to_come now more ≡ option_to_list command ++ to_come (reading over last (drop (at + count + 1) fed)) more
    gave more = ap (λ (r : Reading). to_come r more) (sym view) ∙ given true (cond over [] more)

    pub gave_whole : (more : List ℕ)
        → whole_with now more ≡ option_to_list command ++ whole_with (reading over last (drop (at + count + 1) fed)) more
    gave_whole more = ap (λ (r : Reading). whole_with r more) (sym view) ∙ given false more

    pub gave_ready : ready now ≡ option_to_list command ++ ready (reading over last (drop (at + count + 1) fed))
    gave_ready = ap ready (sym view) ∙ ap (commands_from over place) (sym (append-nil (drop at fed))) ∙ given over []
        ∙ ap (λ (l : List ℕ). option_to_list command ++ commands_from over last l)
        (append-nil (drop (at + count + 1) fed))

-- what is given from there on is given from the start on, and what is kept is kept, for those to come and for those that are whole
module _ (commands : Reading → List ℕ → List Command) (start now : Reading) (so_far : (more : List ℕ) → commands start more ≡ commands now more) where
  pub then_given : {E : Type 0} (r : Result (Option Command) E) (new : Reading)
      → IfOk r (λ command. (more : List ℕ) → commands now more ≡ option_to_list command ++ commands new more)
      → IfOk r (λ command. (more : List ℕ) → commands start more ≡ option_to_list command ++ commands new more)
  then_given (Ok command) new is = λ more. so_far more ∙ is more
  then_given (Err e) new is = tt

  pub then_kept : {T E : Type 0} (r : Result T E) (new : Reading)
      → OnErr r ((more : List ℕ) → commands new more ≡ commands now more)
      → OnErr r ((more : List ℕ) → commands new more ≡ commands start more)
  then_kept (Ok x) new is = tt
  then_kept (Err e) new is = λ more. is more ∙ sym (so_far more)
