use Rattle.std.specs.Prelude.{◌≡◌, map, encode_utf8_all, string_bytes}
use Rattle.std.specs.List.{filter_map}
use Rattle.jfr_outside.specs.World.{rest_in}
use Rattle.jfr_outside.proofs.files.names_in.Given as goal

abbrev pub invariant-loop-name : goal.invariant-loop-name
invariant-loop-name l = map encode_utf8_all l.names ≡ filter_map (rest_in l.folder) (map (λ k. string_bytes k.now) l.yielded)
