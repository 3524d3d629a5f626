use Rattle.jfr_words.proofs.PrintLaws.{filter_given, depth_given, json_given}
use Rattle.jfr_words.proofs.print.PrintSettings.give.Goals as goal

pub returns-in_ok-next_word-in-Filter-clause-given : goal.returns-in_ok-next_word-in-Filter-clause-given
returns-in_ok-next_word-in-Filter-clause-given c = λ word e. filter_given c.args.self.now c.give_option.new.filter c.args.option c.in-Filter.option word _ c.args.unread.now c.next_word.new.self
    c.give_option.result e c.in-Filter.is c.in_ok-next_word-in-Filter.ensures c.give_option.ensures

pub returns-in_ok-next_word-in-Depth-clause-given : goal.returns-in_ok-next_word-in-Depth-clause-given
returns-in_ok-next_word-in-Depth-clause-given c = λ word e. depth_given c.args.self.now c.give_depth.new.self c.args.option word _ c.args.unread.now c.next_word-in-Depth.new.self c.give_depth.result e
    c.in-Depth.is c.in_ok-next_word-in-Depth.ensures c.give_depth.ensures

pub returns-in-Json-clause-given : goal.returns-in-Json-clause-given
returns-in-Json-clause-given c = λ word e. json_given c.args.self.now c.give_json.new.self c.args.option word c.args.unread.now c.give_json.result e c.in-Json.is c.give_json.ensures
