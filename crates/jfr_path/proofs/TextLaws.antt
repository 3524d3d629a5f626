-- The text that keys lead to.
use Rattle.std.specs.Prelude.{◌≡◌, Some, None, option_and_then}
use Rattle.std.proofs.Common.{ap, ◌∙◌}
use Rattle.jfr_text.specs.Strings.{Content}
use Rattle.jfr_text.specs.Strings as strings
use Rattle.jfr_value.specs.Nodes.{NodeAt}
use Rattle.jfr_chunk.specs.Parts.{Parts}
use Rattle.jfr_chunk.specs.Paths.{always, follow_while, string_of, text_of}

module _ (p : Parts) (n m : NodeAt) (e : m ≡ follow_while 16 always p n) where
  pub text_there : (s : Content) → Some s ≡ string_of p m → strings.text_of s ≡ text_of p n
  unfolding text_of
  text_there s h = ap (option_and_then strings.text_of) (h ∙ ap (string_of p) e)

  pub no_text : None ≡ string_of p m → None ≡ text_of p n
  unfolding text_of
  no_text h = ap (option_and_then strings.text_of) (h ∙ ap (string_of p) e)
