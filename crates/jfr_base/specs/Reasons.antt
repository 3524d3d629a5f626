-- The number and the name of each reason.
use Rattle.std.specs.Prelude.{ℕ, List, codes}
use Rattle.jfr_base.specs.declared.reason.Reason.{Reason}
use Rattle.jfr_base.specs.declared.reason.Reason.TheVariants.{NoChunk, ShortHeader, Magic, Version, Unfinished, NotCompact, ChunkSize, ShortChunk, RecordSize, MetadataPosition, PoolPosition, ChainDelta, Short, Trailing, StringKind, StringIndex, TreeDeep, NoClasses, ClassBad, ClassTwice, FieldBad, FieldTwice, UnknownType, EmptyInline, InlineDeep, PoolType, TooLong}

-- The reason's number.
abbrev pub reason_number : Reason → ℕ
reason_number NoChunk = 1
reason_number ShortHeader = 2
reason_number Magic = 3
reason_number Version = 4
reason_number Unfinished = 5
reason_number NotCompact = 6
reason_number ChunkSize = 7
reason_number ShortChunk = 8
reason_number RecordSize = 9
reason_number MetadataPosition = 10
reason_number PoolPosition = 11
reason_number ChainDelta = 12
reason_number Short = 13
reason_number Trailing = 14
reason_number StringKind = 15
reason_number StringIndex = 16
reason_number TreeDeep = 17
reason_number NoClasses = 18
reason_number ClassBad = 19
reason_number ClassTwice = 20
reason_number FieldBad = 21
reason_number FieldTwice = 22
reason_number UnknownType = 23
reason_number EmptyInline = 24
reason_number InlineDeep = 25
reason_number PoolType = 26
reason_number TooLong = 27

-- The name's characters, all ASCII.
abbrev pub reason_name : Reason → List ℕ
reason_name NoChunk = codes "NoChunk"
reason_name ShortHeader = codes "ShortHeader"
reason_name Magic = codes "Magic"
reason_name Version = codes "Version"
reason_name Unfinished = codes "Unfinished"
reason_name NotCompact = codes "NotCompact"
reason_name ChunkSize = codes "ChunkSize"
reason_name ShortChunk = codes "ShortChunk"
reason_name RecordSize = codes "RecordSize"
reason_name MetadataPosition = codes "MetadataPosition"
reason_name PoolPosition = codes "PoolPosition"
reason_name ChainDelta = codes "ChainDelta"
reason_name Short = codes "Short"
reason_name Trailing = codes "Trailing"
reason_name StringKind = codes "StringKind"
reason_name StringIndex = codes "StringIndex"
reason_name TreeDeep = codes "TreeDeep"
reason_name NoClasses = codes "NoClasses"
reason_name ClassBad = codes "ClassBad"
reason_name ClassTwice = codes "ClassTwice"
reason_name FieldBad = codes "FieldBad"
reason_name FieldTwice = codes "FieldTwice"
reason_name UnknownType = codes "UnknownType"
reason_name EmptyInline = codes "EmptyInline"
reason_name InlineDeep = codes "InlineDeep"
reason_name PoolType = codes "PoolType"
reason_name TooLong = codes "TooLong"
