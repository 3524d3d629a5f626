use Rattle.jfr_build.proofs.WritingLaws.{base_appended}
use Rattle.jfr_build.proofs.value.push_base.Goals as goal

pub returns : goal.returns
returns c = record {
  exact = λ s. base_appended c.args.kind s c.in_ok-word.word.now c.next_word.new.words c.args.words.now c.args.out.now c.push_word.new.self c.push_word.result c.in_ok-word.ensures
      c.push_word.ensures.exact;
}
