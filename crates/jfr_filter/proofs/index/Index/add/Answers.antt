use Rattle.std.proofs.Common.{◌≡◌, ◌∙◌, ap, sym, string_bytes}
use Rattle.std.specs.Prelude.{◌||◌}
use Rattle.std.specs.BTreeSet.{contains_text}
use Rattle.std.specs.Str.{chars}
use Rattle.std.proofs.lemmas.Str.{IsUtf8-string_bytes}
use Rattle.jfr_filter.specs.Indexes.{any_at, finds}
use Rattle.jfr_filter.specs.Patterns.{glob, has_wildcard}
use Rattle.jfr_filter.proofs.IndexLaws.{exact_added, glob_added}
use Rattle.jfr_filter.proofs.index.Index.add.Goals as goal

pub returns-in_ok-insert : goal.returns-in_ok-insert
returns-in_ok-insert c = record {
  ok = λ patterns text at u.
      (let key = c.in_ok-from_str.field-0 in
      let same : string_bytes key ≡ c.args.pattern.now = c.in_ok-from_str.ensures.ok in
      let index = c.args.self.now in
      exact_added (string_bytes key) text index.exact c.insert.new.self (any_at patterns (chars text) index.globs.items) (IsUtf8-string_bytes key) u
      (ap (λ z. has_wildcard (chars z)) same ∙ sym c.has_wildcard.ensures ∙ c.if-has_wildcard.false) c.in_ok-insert.ensures.updates
      ∙ ap (λ z. finds index patterns text || glob (chars z) (chars text)) same);
}

pub returns-in_ok-push : goal.returns-in_ok-push
returns-in_ok-push c = record {
  ok = λ patterns text at u.
      (let index = c.args.self.now in
      ap (λ z. contains_text index.exact text || any_at patterns (chars text) z) c.in_ok-push.ensures.items
      ∙ glob_added patterns (chars c.args.pattern.now) (chars text) index.globs.items c.args.number (contains_text index.exact text) at);
}
