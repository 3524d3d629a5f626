-- Strings of the table, and their texts.
use Rattle.std.specs.Prelude.{◌≡◌, ℕ, ◌≤◌, false, List, [], Option, None, Result, Ok, Err, nat_lt, unwrap_or, IfOk}
use Rattle.std.proofs.Common.{ap, arith, refl, sym, ◌∙◌}
use Rattle.jfr_base.specs.declared.flaw.Flaw.{Flaw}
use Rattle.jfr_base.specs.declared.reason.Reason.TheVariants.{Short}
use Rattle.jfr_base.specs.Formats.{Done, refused, run}
use Rattle.std.specs.Str.{chars}
use Rattle.std.proofs.lemmas.Str.{chars-nil}
use Rattle.jfr_text.specs.Strings.{Content, string_format}
use Rattle.jfr_text.specs.Strings as strings
use Rattle.jfr_meta.specs.Body.{table_string, table_text}
use Rattle.jfr_meta.proofs.Runs.{ok, bind_ok, bind_err}

pub no_string : (x : List ℕ) (end at : ℕ) → end ≤ at → run (string_format false) x end at ≡ refused at Short
unfolding run string_format
no_string x end at h = let t : nat_lt at end ≡ false = grind arith in rw t refl

pub text_ok : (x : List ℕ) (end at : ℕ) (s : Content) (p : ℕ) → run (string_format false) x end at ≡ ok s p → run table_string x end at ≡ ok (table_text s) p
unfolding run
text_ok x end at s p e = bind_ok (string_format false) (λ s. Done (table_text s)) x end at s p e

pub text_err : (x : List ℕ) (end at : ℕ) (w : Flaw) → run (string_format false) x end at ≡ Err w → run table_string x end at ≡ Err w
text_err x end at w e = bind_err (string_format false) (λ s. Done (table_text s)) x end at w e

-- A string without a text has the empty one.
pub null_text : {E : Type 0} (r : Result (List ℕ) E) (o : Option (List ℕ)) (s : Content) → IfOk r (λ made. made ≡ chars []) → o ≡ None → o ≡ strings.text_of s → IfOk r (λ t. t ≡ table_text s)
null_text (Ok t) o s h e f = h ∙ (chars-nil ∙ sym (ap (λ z. unwrap_or z []) (sym f ∙ e)))
null_text (Err e) o s h d f = tt
