use Rattle.jfr_value.proofs.LeafKeys.{key_read, key_there}
use Rattle.jfr_value.proofs.leaf.string_key.Goals as goal

pub known_integer-requires-clause-known : goal.known_integer-requires-clause-known
known_integer-requires-clause-known c = let h = c.is_key.ensures.exact.0 c.if-not-is_key.false in key_there c.args.spelled.now c.requires h.0 h.1

pub returns : goal.returns
returns c = let h = c.is_key.ensures.exact.0 c.if-not-is_key.false in key_read c.args.spelled.now c.requires c.known_integer.result h.0 h.1 c.known_integer.ensures.exact
