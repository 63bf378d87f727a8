-- A dump that was read, and a fault of one, without where they lie in memory.
use Rattle.std.specs.Prelude.{[], ◌∷◌, take, drop, Option, Some, None}
use Rattle.flt_dump.specs.Dump.{DumpContent, DumpRefusal, no_script, begun, no_page}
use Rattle.flt_dump.specs.declared.dump.Dump.{Dump}
use Rattle.flt_dump.specs.declared.dump.DumpFault.{DumpFault}
use Rattle.flt_dump.specs.declared.dump.DumpFault.TheVariants.{Memory, Script, Other, PageLine}

-- The configuration, and the two sectors.
abbrev pub dump_content : Dump → DumpContent
dump_content dump = record { config = dump.config; image = take dump.config.pages dump.pages.items ∷ drop dump.config.pages dump.pages.items ∷ [] }

-- What a fault says of the bytes; a lack of memory says nothing.
abbrev pub dump_refusal_of : DumpFault → Option DumpRefusal
dump_refusal_of Memory = None
dump_refusal_of (Script fault) = Some (no_script fault)
dump_refusal_of Other = Some begun
dump_refusal_of (PageLine number) = Some (no_page number)
