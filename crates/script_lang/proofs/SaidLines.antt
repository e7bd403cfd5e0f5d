-- A line between blocks.
use Rattle.std.proofs.Common.{◌≡◌, ◌≤◌, ℕ, List, [], Option, sym, ◌∙◌, ap, drop, arith}
use Rattle.script_lang.specs.declared.command.Command.{Command}
use Rattle.script_lang.specs.declared.said.Said.{Said}
use Rattle.script_lang.specs.declared.reader.Inside.{Inside}
use Rattle.script_lang.specs.declared.reader.Inside.TheVariants.{Nothing}
use Rattle.script_lang.specs.Said.{said_by}
use Rattle.script_lang.specs.Script.{Begun, after_line, after_saying}
use Rattle.script_lang.specs.Place.{block_in, place_in, limit_of}

module _ (inside : Inside) (start : ℕ) (text : List ℕ) (said : Said) (command : Option Command) (next : Inside)
    (between : inside ≡ Nothing) (limit : start ≤ limit_of inside) (is : said ≡ said_by text)
    (follow : (command, block_in next 0 []) ≡ after_saying said) where
  zero : start ≡ 0
  zero = omega (arith, limit, ap limit_of between)

  after : after_line (block_in inside start text) (drop start text) ≡ (command, block_in next 0 [])
  after = (λ i. after_line (block_in (between i) start text) (drop (zero i) text)) ∙ ap after_saying (sym is)
      ∙ sym follow

  pub said_command : command ≡ (after_line (block_in inside start text) (drop start text)).0
  said_command = sym (ap (λ (p : Option Command × Option Begun). p.0) after)

  pub said_place : place_in next start []
      ≡ record { block = (after_line (block_in inside start text) (drop start text)).1; line = [] }
  said_place =
      let at_zero : place_in next start [] ≡ place_in next 0 [] = ap (λ n. place_in next n []) zero in
      at_zero ∙ ap (λ (p : Option Command × Option Begun). record { block = p.1; line = [] }) (sym after)
