-- The names of doubts.
use Rattle.std.specs.Prelude.{ℕ, List, codes}
use Rattle.jfr_verify.specs.declared.doubt.Doubt.{Doubt}
use Rattle.jfr_verify.specs.declared.doubt.Doubt.TheVariants.{ReceiptLong, OutRefused, ChunksDiffer, ClassesDiffer, EventsDiffer, EntriesDiffer, EntryMissing, ReceiptBad}

-- The name of a doubt, as it is printed.
abbrev pub doubt_name : Doubt → List ℕ
doubt_name ReceiptLong = codes "ReceiptLong"
doubt_name OutRefused = codes "OutRefused"
doubt_name ChunksDiffer = codes "ChunksDiffer"
doubt_name ClassesDiffer = codes "ClassesDiffer"
doubt_name EventsDiffer = codes "EventsDiffer"
doubt_name EntriesDiffer = codes "EntriesDiffer"
doubt_name EntryMissing = codes "EntryMissing"
doubt_name ReceiptBad = codes "ReceiptBad"
