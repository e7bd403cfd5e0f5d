-- The texts of replies.
use Rattle.std.specs.Prelude.{ℕ, ◌+◌, Bool, true, false, List, [], ◌∷◌, ◌++◌, codes, length, map, decimal}
use Rattle.csv_text.specs.Rows.{row_fields, rows_text}
use Rattle.cube_schema.specs.declared.schema.SchemaRefusal.{SchemaRefusal}
use Rattle.cube_schema.specs.declared.schema.SchemaRefusal.TheVariants as schemas
use Rattle.fact_csv.specs.declared.refusal.RowRefusal.{RowRefusal}
use Rattle.fact_csv.specs.declared.refusal.RowRefusal.TheVariants as rows
use Rattle.fact_model.specs.declared.slice.Row.{Row}
use Rattle.replica_route.specs.declared.picking.Choice.{Choice}
use Rattle.roll_up.specs.declared.refusal.LevelRefusal.{LevelRefusal}
use Rattle.roll_up.specs.declared.refusal.LevelRefusal.TheVariants as levels
use Rattle.slice_lang.specs.declared.refusal.SliceRefusal.{SliceRefusal}
use Rattle.slice_lang.specs.declared.refusal.SliceRefusal.TheVariants as slices
use Rattle.sql_lang.specs.declared.refusal.SqlRefusal.{SqlRefusal}
use Rattle.sql_lang.specs.declared.refusal.SqlRefusal.TheVariants as queries

-- a text with its line feed
abbrev pub line : List ℕ → List ℕ
line text = text ++ 10 ∷ []

-- a text and a number
abbrev pub numbered : List ℕ → ℕ → List ℕ
numbered text n = text ++ line (decimal n)

-- ---- what one fixed line says, without its line feed

-- no schema is declared, as `status` tells
abbrev pub unopened : List ℕ
unopened = codes "no schema"

-- no schema is declared
abbrev pub no_schema : List ℕ
no_schema = codes "refused no schema"

-- one is declared
abbrev pub is_declared : List ℕ
is_declared = codes "refused declared"

-- the block of a schema is too long
abbrev pub long_schema : List ℕ
long_schema = codes "refused schema block"

-- the block of a batch, or of a level, is too long
abbrev pub long_block : List ℕ
long_block = codes "refused block"

-- a batch is pending
abbrev pub is_pending : List ℕ
is_pending = codes "refused pending"

-- none is pending
abbrev pub none_pending : List ℕ
none_pending = codes "refused nothing pending"

-- there would be too many facts
abbrev pub too_many_facts : List ℕ
too_many_facts = codes "refused facts"

-- a numbered batch has no fact
abbrev pub is_empty : List ℕ
is_empty = codes "refused empty"

-- no view covers the slice
abbrev pub not_covered : List ℕ
not_covered = codes "refused notcovered"

-- the line of a command is too long
abbrev pub long_line : List ℕ
long_line = codes "refused long line"

-- the script ends in a block
abbrev pub open_block : List ℕ
open_block = codes "refused open block"

-- the line is no command
abbrev pub is_unknown : List ℕ
is_unknown = codes "refused unknown"

-- a schema was declared
abbrev pub declared_text : List ℕ
declared_text = codes "declared"

-- a batch has begun
abbrev pub begun_text : List ℕ
begun_text = codes "begun"

-- moves were made
abbrev pub stepped_text : List ℕ
stepped_text = codes "stepped"

-- a batch was dropped
abbrev pub abandoned_text : List ℕ
abandoned_text = codes "abandoned"

-- the pages have the greatest format
abbrev pub upgraded_text : List ℕ
upgraded_text = codes "upgraded"

-- the files keep all rules
abbrev pub audited_text : List ℕ
audited_text = codes "audit yes"

-- ---- what names a number, a name or rows

-- the batch is accepted, and there are so many facts now
abbrev pub committed_text : ℕ → List ℕ
committed_text count = numbered (codes "committed ") count

-- the numbered batch was accepted before
abbrev pub already_text : ℕ → List ℕ
already_text n = numbered (codes "already ") n

-- the numbered batch is not the next one, which is due
abbrev pub gap_text : ℕ → List ℕ
gap_text due = numbered (codes "refused gap ") due

-- there are so many facts
abbrev pub facts_text : ℕ → List ℕ
facts_text count = numbered (codes "facts ") count

-- there are so many facts, and so many are pending
abbrev pub pending_text : ℕ → ℕ → List ℕ
pending_text count pending = codes "facts " ++ decimal count ++ numbered (codes " pending ") pending

-- the first rule that files break is broken in this file, at this offset
abbrev pub broken_text : ℕ → ℕ → List ℕ
broken_text file offset = codes "audit no " ++ decimal file ++ numbered (codes " ") offset

-- the refusal of a schema; want of memory is none, and has no text
abbrev pub schema_text : SchemaRefusal → List ℕ
schema_text (schemas.Line n) = numbered (codes "refused schema line ") n
schema_text (schemas.Name n) = numbered (codes "refused schema name ") n
schema_text (schemas.Repeated n) = numbered (codes "refused schema repeated ") n
schema_text (schemas.UnknownAttr n) = numbered (codes "refused schema attribute ") n
schema_text (schemas.TooMany n) = numbered (codes "refused schema many ") n
schema_text (schemas.Range n) = numbered (codes "refused schema range ") n
schema_text schemas.NoAttribute = line (codes "refused schema no attribute")
schema_text schemas.NoMeasure = line (codes "refused schema no measure")
schema_text schemas.NoView = line (codes "refused schema no view")
schema_text schemas.Memory = line []

-- the refusal of a batch by its rows; want of memory is none, and has no text
abbrev pub batch_text : RowRefusal → List ℕ
batch_text rows.Rows = line (codes "refused rows")
batch_text (rows.Fields row) = codes "refused row " ++ (decimal row ++ line (codes " fields"))
batch_text (rows.Number row field) = codes "refused row " ++ (decimal row ++ numbered (codes " number ") field)
batch_text (rows.Long row field) = codes "refused row " ++ (decimal row ++ numbered (codes " long ") field)
batch_text rows.Memory = line []

-- a level has so many values with a parent
abbrev pub leveled_text : ℕ → List ℕ
leveled_text count = numbered (codes "leveled ") count

-- the refusal of a level; a fault of its rows is told as that of a batch; want of memory is none, and has no text
abbrev pub level_text : LevelRefusal → List ℕ
level_text levels.Name = line (codes "refused level name")
level_text levels.Attribute = line (codes "refused level attribute")
level_text levels.Many = line (codes "refused level many")
level_text levels.Rows = batch_text rows.Rows
level_text (levels.Fields row) = batch_text (rows.Fields row)
level_text (levels.Number row) = batch_text (rows.Number row 1)
level_text (levels.Long row field) = batch_text (rows.Long row field)
level_text (levels.Repeated row) = codes "refused row " ++ (decimal row ++ line (codes " repeated"))
level_text levels.Memory = line []

-- the refusal of a batch by the names of the attribute of this name
abbrev pub full_text : List ℕ → List ℕ
full_text name = codes "refused names " ++ line name

-- the refusal of a batch by the mass of the measure of this name
abbrev pub mass_text : List ℕ → List ℕ
mass_text name = codes "refused mass " ++ line name

-- the refusal of a slice; want of memory is none, and has no text
abbrev pub slice_text : SliceRefusal → List ℕ
slice_text (slices.Syntax byte) = numbered (codes "refused syntax ") byte
slice_text (slices.UnknownAttr byte) = numbered (codes "refused attribute ") byte
slice_text (slices.UnknownMeasure byte) = numbered (codes "refused measure ") byte
slice_text (slices.Repeated byte) = numbered (codes "refused repeated ") byte
slice_text (slices.BadValue byte) = numbered (codes "refused value ") byte
slice_text slices.Memory = line []

-- the refusal of a query; want of memory is none, and has no text
abbrev pub query_text : SqlRefusal → List ℕ
query_text (queries.Syntax byte) = numbered (codes "refused sql syntax ") byte
query_text (queries.Table byte) = numbered (codes "refused sql table ") byte
query_text (queries.Name byte) = numbered (codes "refused sql name ") byte
query_text (queries.Group byte) = numbered (codes "refused sql group ") byte
query_text (queries.Value byte) = numbered (codes "refused sql value ") byte
query_text queries.Memory = line []

-- whether the points that meet the conditions are one part of the view's points
abbrev pub run_text : Bool → List ℕ
run_text true = codes " run yes"
run_text false = codes " run no"

-- the view picked, counted from 1, how many of its last attributes are bound, and how its points lie
abbrev pub choice_text : Choice → List ℕ
choice_text choice = codes "view " ++ (decimal (choice.view + 1) ++ (codes " suffix " ++ (decimal choice.suffix ++ line (run_text choice.run))))

-- the rows, and then their number
abbrev pub answer_text : List Row → List ℕ
answer_text found = rows_text (map row_fields found) ++ numbered (codes "rows ") (length found)
