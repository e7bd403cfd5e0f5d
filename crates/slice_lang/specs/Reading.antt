-- The slice of a text, or the first rule that is broken, from left to right.
use Rattle.std.specs.Prelude.{ℕ, ◌+◌, Bool, not, ◌&&◌, ◌||◌, ◌==◌, List, [], ◌∷◌, ◌++◌, length, drop, nat_lt, nat_eq, codes, if◌then◌else◌, Ok, Err}
use Rattle.std.specs.List.{list_any}
use Rattle.std.specs.Str.{bytes_eq}
use Rattle.fact_model.specs.declared.slice.Column.{Column}
use Rattle.fact_model.specs.declared.slice.Column.TheVariants.{Count, Sum, Min, Max}
use Rattle.fact_model.specs.declared.slice.Cond.{Cond}
use Rattle.fact_model.specs.declared.slice.Slice.{Slice}
use Rattle.fact_model.specs.Slice.{attr_of}
use Rattle.cube_schema.specs.Kinds.{kind_at}
use Rattle.cube_schema.specs.Reading.{is_attr, number_of, is_measure, measure_number}
use Rattle.cube_schema.specs.Words.{begins}
use Rattle.cube_schema.specs.declared.schema.Schema.{Schema}
use Rattle.slice_lang.specs.Answers.{Reading, ◌>>=◌, judged, or_refused, gathered}
use Rattle.slice_lang.specs.Names.{Named, name_in, behind_name}
use Rattle.slice_lang.specs.Parts.{Part, space, comma, parts_of, is_word, byte_of, before}
use Rattle.slice_lang.specs.Values.{written_in, meaning}
use Rattle.slice_lang.specs.declared.refusal.SliceRefusal.{SliceRefusal}
use Rattle.slice_lang.specs.declared.refusal.SliceRefusal.TheVariants as refused

-- `sum`, `min` or `max`
abbrev pub is_fold : List ℕ → Bool
is_fold word = bytes_eq word (codes "sum") || bytes_eq word (codes "min") || bytes_eq word (codes "max")

-- the column of such a word over a measure
abbrev pub column_over : List ℕ → ℕ → Column
column_over word measure = if bytes_eq word (codes "sum") then Sum measure else (if bytes_eq word (codes "min") then Min measure else Max measure)

-- behind `count` there is no `(`, and nothing more
abbrev pub count_rules : ℕ → List ℕ → List (Bool × SliceRefusal)
count_rules end text =
    (not (begins (behind_name text) (codes "(")), refused.Syntax (byte_of end text))
    ∷ (length (behind_name text) == 0, refused.Syntax (byte_of end (behind_name text)))
    ∷ []

-- the column `count`, in front of which the text begins
unfoldable pub count_in : ℕ → List ℕ → Reading Column
count_in end text = judged Count (count_rules end text)

-- the name of a measure, then `)`, and nothing more
abbrev pub measured_rules : Schema → ℕ → List ℕ → List (Bool × SliceRefusal)
measured_rules s end text =
    (nat_lt 0 (length (name_in text)), refused.Syntax (byte_of end text))
    ∷ (is_measure s (name_in text), refused.UnknownMeasure (byte_of end text))
    ∷ (begins (behind_name text) (codes ")"), refused.Syntax (byte_of end (behind_name text)))
    ∷ (length (behind_name text) == 1, refused.Syntax (byte_of end (drop 1 (behind_name text))))
    ∷ []

-- the column of a word over the measure that is named behind its `(`
unfoldable pub measured_in : Schema → List ℕ → ℕ → List ℕ → Reading Column
measured_in s word end text = judged (column_over word (measure_number s (name_in text))) (measured_rules s end text)

-- a column: `count`, or `sum`, `min` or `max` with a measure in parentheses
unfoldable pub column_in : Schema → Part → Reading Column
column_in s part =
    if bytes_eq (name_in part.text) (codes "count") then count_in part.end part.text
    else (if is_fold (name_in part.text) && begins (behind_name part.text) (codes "(") then measured_in s (name_in part.text) part.end (drop 1 (behind_name part.text))
    else Err (refused.Syntax (byte_of part.end part.text)))

-- columns with commas between
abbrev pub columns_in : Schema → Part → Reading (List Column)
columns_in s part = gathered (λ columns item. column_in s item) [] (parts_of comma part.end part.text)

-- a name that is not empty, of an attribute
abbrev pub attr_rules : Schema → ℕ → List ℕ → List (Bool × SliceRefusal)
attr_rules s end text =
    (nat_lt 0 (length (name_in text)), refused.Syntax (byte_of end text))
    ∷ (is_attr s (name_in text), refused.UnknownAttr (byte_of end text))
    ∷ []

-- what the name at the front of a text names
abbrev pub named_in : Schema → List ℕ → Named
named_in s text = record { attr = number_of s (name_in text); behind = behind_name text }

-- the attribute that is named at the front of a text, and what follows the name
unfoldable pub attr_in : Schema → ℕ → List ℕ → Reading Named
attr_in s end text = judged (named_in s text) (attr_rules s end text)

-- an attribute that is none of these, and nothing more
abbrev pub group_rules : List ℕ → Part → Named → List (Bool × SliceRefusal)
group_rules group part named =
    (not (list_any (nat_eq named.attr) group), refused.Repeated (byte_of part.end part.text))
    ∷ (length named.behind == 0, refused.Syntax (byte_of part.end named.behind))
    ∷ []

-- one attribute of a group
unfoldable pub name_of_group : Schema → List ℕ → Part → Reading ℕ
name_of_group s group part = attr_in s part.end part.text >>= (λ named. judged named.attr (group_rules group part named))

-- names of attributes with commas between, none twice
abbrev pub group_in : Schema → Part → Reading (List ℕ)
group_in s part = gathered (name_of_group s) [] (parts_of comma part.end part.text)

-- the condition is on this attribute
abbrev pub is_on : ℕ → Cond → Bool
is_on attr cond = nat_eq attr (attr_of cond)

-- nothing more
abbrev pub end_rules : ℕ → List ℕ → List (Bool × SliceRefusal)
end_rules end behind = (length behind == 0, refused.Syntax (byte_of end behind)) ∷ []

-- the value of an attribute, and nothing more
unfoldable pub value_in : Schema → ℕ → ℕ → List ℕ → Reading Cond
value_in s attr end text =
    written_in end text
    >>= (λ written. or_refused (refused.BadValue (byte_of end text)) (meaning (kind_at s attr) attr written)
    >>= (λ cond. judged cond (end_rules end written.behind)))

-- an attribute on which none of these conditions is, and then `=`
abbrev pub cond_rules : List Cond → Part → Named → List (Bool × SliceRefusal)
cond_rules conds part named =
    (not (list_any (is_on named.attr) conds), refused.Repeated (byte_of part.end part.text))
    ∷ (begins named.behind (codes "="), refused.Syntax (byte_of part.end named.behind))
    ∷ []

-- the condition of a part, where these stand before it
unfoldable pub cond_in : Schema → List Cond → Part → Reading Cond
cond_in s conds part =
    attr_in s part.end part.text
    >>= (λ named. judged named (cond_rules conds part named)
    >>= (λ fresh. value_in s fresh.attr part.end (drop 1 fresh.behind)))

-- these conditions and those that follow, each behind an `and`
abbrev pub conds_in : Schema → List Cond → List Part → Reading (List Cond)
conds_in s conds [] = Ok conds
conds_in s conds (word ∷ []) = Err (refused.Syntax (before word))
conds_in s conds (word ∷ (next ∷ more)) =
    if is_word (codes "and") word then (cond_in s conds next >>= (λ cond. conds_in s (conds ++ cond ∷ []) more))
    else Err (refused.Syntax (before word))

-- the first condition, and those that follow
abbrev pub all_conds_in : Schema → Part → List Part → Reading (List Cond)
all_conds_in s first more = cond_in s [] first >>= (λ cond. conds_in s (cond ∷ []) more)

abbrev pub made : List Column → List ℕ → List Cond → Slice
made columns group conds = record { columns = columns; group = group; conds = conds }

-- the slice of these columns and this group, where its conditions follow behind a `where`, if there are any
unfoldable pub behind_group : Schema → List Column → List ℕ → List Part → Reading Slice
behind_group s columns group [] = Ok (made columns group [])
behind_group s columns group (word ∷ []) = Err (refused.Syntax (before word))
behind_group s columns group (word ∷ (next ∷ more)) =
    if is_word (codes "where") word then (all_conds_in s next more >>= (λ conds. Ok (made columns group conds)))
    else Err (refused.Syntax (before word))

-- the slice of these columns, where its group follows behind a `by`, if there is one
unfoldable pub behind_columns : Schema → List Column → List Part → Reading Slice
behind_columns s columns [] = behind_group s columns [] []
behind_columns s columns (word ∷ []) = behind_group s columns [] (word ∷ [])
behind_columns s columns (word ∷ (next ∷ more)) =
    if is_word (codes "by") word then (group_in s next >>= (λ group. behind_group s columns group more))
    else behind_group s columns [] (word ∷ (next ∷ more))

-- the slice of these words, of which the first is the columns
abbrev pub words_in : Schema → List Part → Reading Slice
words_in s [] = Err (refused.Syntax 1)
words_in s (word ∷ more) = columns_in s word >>= (λ columns. behind_columns s columns more)

-- the slice of a text, whose first byte is byte 1
unfoldable pub slice_of : Schema → List ℕ → Reading Slice
slice_of s text = words_in s (parts_of space (length text + 1) text)
