-- What the plain machine makes of the batch of a source, and what is said of each command that sends one.
use Rattle.script_lang.specs.declared.command.Command.TheVariants as says
use Rattle.cube_batches.proofs.Names.{◌++◌, ◌+◌, ◌<◌, ◌∙◌, ◌∷◌, ◌≡◌, ◌⊎◌, Answer, BatchSource, BeginGives, Block, Command, Cost, Costs, Empty, Err, Fact, Files, Generator, Given, Gives, GivesBatch}
use Rattle.cube_batches.proofs.Names.{GivesBegun, GivesGiven, Hollow, Idle, IsFitting, IsRefused, IsStep, IsTakenIn, Kept, Knows, List, LoadGives, MakesNoCall, MayWrite, None, Numbered, Ok, Option}
use Rattle.cube_batches.proofs.Names.{Pending, RefusesBy, RefusesGiven, Result, Rows, Schema, Sends, Some, State, Store, Warehouse, World, [], act, act_begin, act_generate, act_load}
use Rattle.cube_batches.proofs.Names.{act_load_numbered, answer_by, ap, arith, asked_by, batch_by, batch_from, batch_given, batch_sent, batch_with, begins, begins_over, begun, block_read, committed}
use Rattle.cube_batches.proofs.Names.{cond, free, given_to, inl, length, length-append, load, load_cost, load_cost_of, load_of, made_alone, makes_stage, moves_of, nat_lt, number_of}
use Rattle.cube_batches.proofs.Names.{read_by, refl, refusal_of, size, sym, take_over, true, unless, with_last, ℕ}
use Rattle.cube_batches.proofs.Names.{Level}
use Rattle.cube_state.proofs.{BatchCosts.grows, BatchCosts.pending_format, Moves.format_stays}
use Rattle.cube_state.specs.Moves.{Reached, batch_moves, format_behind, format_with, reached_behind}
use Rattle.spec_store.specs.Held.{format_for}

-- ---- the commands that take one in at once

-- what holds of each of them holds of that of any source
pub each_load : (P : BatchSource → Command → Type 0) → ((block : Block) → P (Rows block) (says.Load block)) → ((number : ℕ) (block : Block) → P (Numbered number block) (says.LoadNumbered number block))
    → ((start rows : ℕ) → P (Generator start rows) (says.Generate start rows)) → (source : BatchSource) → P source (load_of source)
each_load P read numbered made (Rows block) = read block
each_load P read numbered made (Numbered number block) = numbered number block
each_load P read numbered made (Generator start rows) = made start rows

act_load_of : (world : World) (source : BatchSource) → act world (load_of source) ≡ load world source
act_load_of world source = each_load (λ s c. act world c ≡ load world s) (act_load world) (act_load_numbered world) (act_generate world) source

pub load_gives : (source : BatchSource) (levels : List Level) (state : State) (files : Files) (reply : List ℕ) → LoadGives state files source reply → Gives levels state files (load_of source) reply
load_gives source levels state files reply = each_load (λ s c. LoadGives state files s reply → Gives levels state files c reply) (λ b is. is) (λ n b is. is) (λ s r is. is) source

reached_load : (world : World) (reached : Reached) (source : BatchSource) → reached_behind world reached (load_of source) ≡ record reached { format = format_behind world reached.format (load_of source) }
reached_load world reached source = each_load (λ s c. reached_behind world reached c ≡ record reached { format = format_behind world reached.format c }) (λ b. refl) (λ n b. refl) (λ s r. refl) source

-- ---- the answer

module _ (world : World) (source : BatchSource) (after : Warehouse → List Fact → ℕ → Answer) (warehouse : Warehouse) (knows : Knows (Some warehouse) None world) where
  abbrev limited : List Fact → ℕ → Answer
  limited batch last = unless world (after warehouse batch last) (refusal_of warehouse.schema (warehouse.facts ++ batch))

  -- to what was read
  pub answer_read : (given : Given) → batch_from warehouse.schema warehouse.last source ≡ given → answer_by world after source ≡ read_by world limited given
  answer_read given read =
      (λ i. take_over world (λ w batch last. unless world (after w batch last) (refusal_of w.schema (w.facts ++ batch))) (knows.kept i) (knows.pending i) source) ∙ ap (read_by world limited) read

  -- to a batch that keeps the limits, or not
  pub answer_batch : (batch : List Fact) (last : ℕ) (refusal : Option (List ℕ)) → batch_from warehouse.schema warehouse.last source ≡ Ok (batch, last)
      → refusal_of warehouse.schema (warehouse.facts ++ batch) ≡ refusal → answer_by world after source ≡ unless world (after warehouse batch last) refusal
  answer_batch batch last refusal read limits = answer_read (Ok (batch, last)) read ∙ ap (unless world (after warehouse batch last)) limits

-- ---- the last number behind a batch

last_in : ℕ → Given → ℕ
last_in least (Ok given) = given.1
last_in least (Err text) = least

-- without a number it stays
same_last : (last n : ℕ) (read : Result (List Fact) (List ℕ)) (batch : List Fact) → with_last last read ≡ Ok (batch, n) → n ≡ last
unfolding last_in
same_last last n (Ok facts) batch is = sym (ap (last_in last) is)
same_last last n (Err text) batch is = sym (ap (last_in last) is)

pub rows_last : (schema : Schema) (last n : ℕ) (block : Block) (batch : List Fact) → batch_from schema last (Rows block) ≡ Ok (batch, n) → n ≡ last
rows_last schema last n block batch is = same_last last n (block_read schema block) batch is

-- ---- what a batch costs that is not empty

module _ (world : World) (source : BatchSource) (warehouse : Warehouse) (batch : List Fact) (last : ℕ) (is : IsFitting world source warehouse batch last) where
  pub load_answer : act world (load_of source) ≡ committed world warehouse batch last
  load_answer = act_load_of world source ∙ answer_batch world source (committed world) warehouse is.knows batch last None is.read is.fits

  moves_with : (format : ℕ) (number : Option ℕ) (facts : List Fact) → 0 < length facts → moves_of format (Some warehouse) (batch_with number facts) ≡ batch_moves format warehouse facts
  moves_with format number [] some = absurd (omega (arith, some))
  moves_with format number (x ∷ xs) some = refl

  sent : batch_by world (load_of source) ≡ batch_with (number_of source) batch
  sent = each_load (λ s c. batch_by world c ≡ batch_sent world.kept s) (λ b. refl) (λ n b. refl) (λ s r. refl) source ∙ (ap (λ (k : Kept). batch_sent k source) is.knows.kept ∙ ap (batch_given (number_of source)) is.read)

  stage : 0 < length batch → makes_stage world (load_of source) ≡ true
  stage some = (λ i. nat_lt (size (is.knows.kept i)) (size (load_answer i).0.kept)) ∙ grows warehouse.facts batch some

  pub load_is : 0 < length batch → (reached : Reached) (cost : Cost) → Costs world reached (load_of source) cost → cost ≡ load_cost_of reached.format (Some warehouse) (batch_moves reached.format warehouse batch)
  load_is some reached cost costs = each_load (λ s c. Costs world reached c cost → cost ≡ load_cost reached.format world c) (λ b is. is) (λ n b is. is) (λ s r is. is) source costs
      ∙ ((λ i. cond (stage some i) (load_cost_of reached.format (is.knows.kept i) (moves_of reached.format (is.knows.kept i) (sent i))) free)
      ∙ ap (load_cost_of reached.format (Some warehouse)) (moves_with reached.format (number_of source) batch some))

  -- the pages have the format then that its numbers need
  pub load_reaches : 0 < length batch → (reached : Reached) → reached_behind world reached (load_of source) ≡ record reached { format = format_for reached.format batch }
  load_reaches some reached = reached_load world reached source
      ∙ (λ i. record reached { format = ((λ j. cond (stage some j) (format_with reached.format (sent j)) reached.format) ∙ pending_format reached.format (number_of source) batch some) i })

  -- what is kept then is not what was kept
  pub load_calls : 0 < length batch → (reached : Reached) → MakesNoCall world reached (load_of source) → ⊥
  load_calls some reached none =
      let same = each_load (λ s c. MakesNoCall world reached c → (act world c).0.kept ≡ world.kept) (λ b is. is) (λ n b is. is) (λ s r is. is) source none in
      let sizes : length (warehouse.facts ++ batch) + 1 ≡ length warehouse.facts + 1
      = ap (λ (a : Answer). size a.0.kept) (sym load_answer) ∙ (ap size same ∙ ap size is.knows.kept) in
      omega (arith, sizes, length-append warehouse.facts batch, some)

begins_one : (facts : List Fact) → 0 < length facts → begins_over None (Some facts) ≡ 1
begins_one [] some = absurd (omega (arith, some))
begins_one (x ∷ xs) some = refl

module _ (world : World) (block : Block) (warehouse : Warehouse) (batch : List Fact) (last : ℕ) (is : IsFitting world (Rows block) warehouse batch last) where
  pub begin_answer : act world (says.Begin block) ≡ begun world batch
  begin_answer = act_begin world block ∙ answer_batch world (Rows block) (λ w b n. begun world b) warehouse is.knows batch last None is.read is.fits

  pub begins_is : 0 < length batch → begins world block ≡ 1
  begins_is some = (λ i. begins_over (is.knows.pending i) ((sym (act_begin world block) ∙ begin_answer) i).0.pending) ∙ begins_one batch some

-- ---- a command that sends the batch of a source

-- a batch with a fact is refused or taken in
pub given_some : (store : Store) (files : Files) (batch : List Fact) (reply : List ℕ) → 0 < length batch → IsRefused store reply ⊎ IsTakenIn store files batch reply → GivesBatch store files batch reply
given_some store files [] reply some is = absurd (omega (arith, some))
given_some store files (x ∷ xs) reply some is = is

given_refused : (store : Store) (files : Files) (given : Given) (reply : List ℕ) → RefusesGiven store given reply → GivesGiven store files given reply × GivesBegun store given reply
given_refused store files (Ok given) reply is = (given_some store files given.0 reply is.0 (inl is.1), inl is.1)
given_refused store files (Err text) reply is = (is, is)

source_refused : (state : State) (files : Files) (source : BatchSource) (reply : List ℕ) → RefusesBy state source reply → LoadGives state files source reply
source_refused Empty files source reply is = is
source_refused (Idle store) files source reply is = (given_refused store files (given_to store source) reply is).0
source_refused (Hollow store) files source reply is = is
source_refused (Pending r) files source reply is = is

begin_refused : (state : State) (files : Files) (block : Block) (reply : List ℕ) → RefusesBy state (Rows block) reply → BeginGives state block reply
begin_refused Empty files block reply is = is
begin_refused (Idle store) files block reply is = (given_refused store files (given_to store (Rows block)) reply is).1
begin_refused (Hollow store) files block reply is = is
begin_refused (Pending r) files block reply is = is

pub load_sends : (source : BatchSource) → Sends (load_of source) source
load_sends source = record {
  none_asked = each_load (λ s c. (schema : Schema) (levels : List Level) → asked_by schema levels c ≡ None) (λ b schema levels. refl) (λ n b schema levels. refl) (λ s r schema levels. refl) source;
  writes = each_load (λ s c. MayWrite c) (λ b. tt) (λ n b. tt) (λ s r. tt) source;
  no_step = each_load (λ s c. IsStep c → ⊥) (λ b is. is) (λ n b is. is) (λ s r is. is) source;
  after = committed;
  acts = λ world. act_load_of world source;
  moves = λ world reached same. reached_load world reached source ∙ (λ i. record reached { format = format_stays world reached.format (load_of source) same i });
  alone = λ made. each_load (λ s c. made_alone c made ≡ made) (λ b. refl) (λ n b. refl) (λ s r. refl) source;
  refuses = λ levels state files reply is. load_gives source levels state files reply (source_refused state files source reply is);
  costs = λ world reached cost costs warehouse batch last is some.
      let exact = load_is world source warehouse batch last is some reached cost costs in
      (omega (arith, ap (λ (c : Cost). c.reads) exact), omega (arith, ap (λ (c : Cost). c.writes) exact));
}

pub begin_sends : (block : Block) → Sends (says.Begin block) (Rows block)
begin_sends block = record {
  none_asked = λ schema levels. refl;
  writes = tt;
  no_step = λ step. step;
  after = λ world warehouse batch last. begun world batch;
  acts = λ world. act_begin world block;
  moves = λ world made same. refl;
  alone = λ made. refl;
  refuses = λ levels state files reply is. begin_refused state files block reply is;
  costs = λ world made cost costs warehouse batch last is some.
      let exact : cost ≡ record { reads = 1; writes = 1 } = costs ∙ ap (λ (n : ℕ). record { reads = n; writes = n }) (begins_is world block warehouse batch last is some) in
      (omega (arith, ap (λ (c : Cost). c.reads) exact), omega (arith, ap (λ (c : Cost). c.writes) exact));
}
