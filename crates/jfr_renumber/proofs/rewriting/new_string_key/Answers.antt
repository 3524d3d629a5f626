use Rattle.std.proofs.Common.{Some, ap, sym, ◌∙◌}
use Rattle.std.specs.Option.{option_map}
use Rattle.jfr_value.proofs.LeafKeys.{key_read, key_there}
use Rattle.jfr_renumber.proofs.rewriting.new_string_key.Goals as goal

pub known_integer-key-requires-clause-known : goal.known_integer-key-requires-clause-known
known_integer-key-requires-clause-known g c = key_there c.args.spelled.now c.requires.spelled c.requires.key.0 c.requires.key.1

pub returns : goal.returns
returns g c =
    let read = key_read c.args.spelled.now c.requires.spelled c.known_integer-key.result c.requires.key.0 c.requires.key.1 c.known_integer-key.ensures.exact in
    ap (option_map (λ key. g.N.NewKeys.keys c.args.new.now (c.args.class, key))) (sym read) ∙ ap (λ z. Some z) (sym c.new_key.ensures)
