use Rattle.std.proofs.Common.{◌≡◌, map, take, encode_utf8_all}
use Rattle.jfr_split.proofs.Sorting.{bytes_of}
use Rattle.jfr_split.proofs.Listed.{joined_in}
use Rattle.jfr_split.proofs.listing.joined_files.Given as goal

abbrev pub invariant-loop-name : goal.invariant-loop-name
invariant-loop-name l = bytes_of l.files.items ≡ joined_in l.folder (map encode_utf8_all (take l.name-index l.names))
