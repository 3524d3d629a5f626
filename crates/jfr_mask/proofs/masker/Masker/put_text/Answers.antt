use Rattle.std.proofs.Common.{◌++◌, ap, sym, ◌∙◌}
use Rattle.std.proofs.lemmas.Result.{on_ok_weaker}
use Rattle.jfr_mask.specs.Pseudonyms.{has_text}
use Rattle.jfr_mask.specs.Written.{shown_bytes}
use Rattle.jfr_mask.proofs.ShownLaws.{empty_string, other_string}
use Rattle.jfr_mask.proofs.masker.Masker.put_text.Goals as goal

pub returns-then-is_empty : goal.returns-then-is_empty
returns-then-is_empty c = record {
  ok = c.in_ok-push.ensures.items ∙ ap (λ z. c.args.out.now.items ++ z)
      (sym (empty_string (has_text c.args.self.now.known.now) c.args.self.now.dictionary.now c.args.text.now (sym c.if-is_empty.ensures)));
}

pub returns : goal.returns
returns c =
    let written = other_string (has_text c.args.self.now.known.now) c.args.self.now.dictionary.now c.args.text.now (shown_bytes c.of.result) c.utf8.text
    (sym c.if-is_empty.ensures) c.of.ensures in
    record { ok = on_ok_weaker c.put_shown.result (λ e. e ∙ ap (λ z. c.args.out.now.items ++ z) (sym written)) c.put_shown.ensures.ok }
