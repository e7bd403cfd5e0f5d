use Rattle.std.proofs.Common.{◌≡◌, ◌≤◌, ◌<◌, ◌+◌, ◌*◌, ◌-◌, ℕ, List, length, take, drop, get_or, sym, ap, subst, ◌∙◌, arith}
use Rattle.std.proofs.lemmas.List.{length-drop, take_all}
use Rattle.be_numbers.specs.Formats.{many}
use Rattle.cube_point.specs.declared.point.Entry.{Entry}
use Rattle.cube_point.specs.declared.point.Shape.{Shape}
use Rattle.page_entry.specs.Bytes.{entry_size}
use Rattle.page_entry.specs.Runs.{Follows, Precedes}
use Rattle.page_entry.specs.Entries.{entry_of}
use Rattle.page_entry.proofs.Runs.{less-is, less-not, run-at, run-long, run-room}
use Rattle.page_entry.proofs.run.CodedRun.is_before.Goals as goal

abbrev Seen : Type 0
Seen = record { entries : List Entry; arity : ℕ; shape : Shape }

-- the entry lies in the bytes
room : (entries count arity : ℕ) (shape : Shape) (b : List ℕ) (i size : ℕ) → i < entries → entries ≡ count → length b ≡ count * entry_size arity shape → size ≡ entry_size arity shape → i * size + entry_size arity shape ≤ length b
room entries count arity shape b i size lt many long is = run-room arity shape count i (i * size) b (omega (arith, lt, many)) long (ap (λ (k : ℕ). i * k) is)

pub overflow_mul-at : goal.overflow_mul-at
overflow_mul-at c =
    let s = c.self.inside in
    let many = ap (λ (v : Seen). length v.entries) (sym c.self.view_is) ∙ run-long s.arity s.shape s.count s.bytes.now in
    omega (arith, room (length c.args.self.now.entries) s.count s.arity s.shape s.bytes.now c.args.index c.size_of_entry.result c.requires many c.self.invariant.long c.size_of_entry.ensures, c.self.invariant.short)

pub slice_bounds-entry-count : goal.slice_bounds-entry-count
slice_bounds-entry-count c =
    let s = c.self.inside in
    let many = ap (λ (v : Seen). length v.entries) (sym c.self.view_is) ∙ run-long s.arity s.shape s.count s.bytes.now in
    omega (arith, room (length c.args.self.now.entries) s.count s.arity s.shape s.bytes.now c.args.index c.size_of_entry.result c.requires many c.self.invariant.long c.size_of_entry.ensures)

pub slice_bounds-entry-start : goal.slice_bounds-entry-start
slice_bounds-entry-start c =
    let s = c.self.inside in
    let many = ap (λ (v : Seen). length v.entries) (sym c.self.view_is) ∙ run-long s.arity s.shape s.count s.bytes.now in
    omega (arith, room (length c.args.self.now.entries) s.count s.arity s.shape s.bytes.now c.args.index c.size_of_entry.result c.requires many c.self.invariant.long c.size_of_entry.ensures)

pub compare_with-requires-clause-place : goal.compare_with-requires-clause-place
compare_with-requires-clause-place c =
    let s = c.self.inside in
    let b = s.bytes.now in
    let at = c.args.index * c.size_of_entry.result in
    let many = ap (λ (v : Seen). length v.entries) (sym c.self.view_is) ∙ run-long s.arity s.shape s.count s.bytes.now in
    let inside = room (length c.args.self.now.entries) s.count s.arity s.shape b c.args.index c.size_of_entry.result c.requires many c.self.invariant.long c.size_of_entry.ensures in
    let all = take_all (length b - at) (drop at b) (omega (arith, length-drop at b)) in
    omega (arith, ap length all, length-drop at b, inside)

-- the bytes from its place on are its own
own : (arity : ℕ) (shape : Shape) (n i size : ℕ) (b : List ℕ) (d : Entry) → i < n → size ≡ entry_size arity shape → length (drop (i * size) b) ≤ length b - i * size
    → entry_of arity shape (take (length b - i * size) (drop (i * size) b)) ≡ get_or (many (entry_of arity shape) (entry_size arity shape) n b) i d
own arity shape n i size b d lt is le =
    ap (entry_of arity shape) (take_all (length b - i * size) (drop (i * size) b) le)
    ∙ (ap (λ (k : ℕ). entry_of arity shape (drop (i * k) b)) is ∙ sym (run-at arity shape n i b d lt))

pub returns-clause-before : goal.returns-clause-before
returns-clause-before c = λ is d.
    let s = c.self.inside in
    let b = s.bytes.now in
    let at = c.args.index * c.size_of_entry.result in
    let many_are = ap (λ (v : Seen). length v.entries) (sym c.self.view_is) ∙ run-long s.arity s.shape s.count b in
    let less = less-is c.compare_with.result (sym c.is_lt.ensures ∙ is) in
    let here = own s.arity s.shape s.count c.args.index c.size_of_entry.result b d (omega (arith, c.requires, many_are)) c.size_of_entry.ensures (omega (arith, length-drop at b)) in
    subst (λ (v : Seen). Precedes c.args.point.now (get_or v.entries c.args.index d)) c.self.view_is
    (subst (λ (e : Entry). Precedes c.args.point.now e) here (sym c.compare_with.ensures ∙ less))

pub returns-clause-behind : goal.returns-clause-behind
returns-clause-behind c = λ is d.
    let s = c.self.inside in
    let b = s.bytes.now in
    let at = c.args.index * c.size_of_entry.result in
    let many_are = ap (λ (v : Seen). length v.entries) (sym c.self.view_is) ∙ run-long s.arity s.shape s.count b in
    let here = own s.arity s.shape s.count c.args.index c.size_of_entry.result b d (omega (arith, c.requires, many_are)) c.size_of_entry.ensures (omega (arith, length-drop at b)) in
    subst (λ (v : Seen). Follows c.args.point.now (get_or v.entries c.args.index d)) c.self.view_is
    (subst (λ (e : Entry). Follows c.args.point.now e) here (λ less. less-not c.compare_with.result (sym c.is_lt.ensures ∙ is) (c.compare_with.ensures ∙ less)))
