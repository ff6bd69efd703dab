-- `compose::Question::examine` meets its contract.
use borrow.Author.Rules.{rules}
use Rattle.std.proofs.lemmas.Result.{err_from_is_err_and}
use Rattle.judge.proofs.AcceptedFile.{accepted-file}
use Rattle.compose.proofs.Examining.{judge-stops, ask-stops, asked-right, sides-fit, edges_fit, selects-table, table-chosen, examined}
use Rattle.compose.specs.Steps.{asked}
use Rattle.compose.proofs.Question.examine.Goals as goal

pub select-n-requires : goal.select-n-requires
select-n-requires c = search (rules, accepted-file, c.in_ok-judge.was)

pub returns-in_err-judge : goal.returns-in_err-judge
returns-in_err-judge c =
    let p = err_from_is_err_and c.from_residual.result c.from_residual.ensures.1 in rw (p.1, p.2) (search (judge-stops, c.in_err-judge.was))

pub returns-in_err-ask : goal.returns-in_err-ask
returns-in_err-ask c =
    let p = err_from_is_err_and c.from_residual-in_err-ask.result c.from_residual-in_err-ask.ensures.1 in rw (p.1, p.2) (search (ask-stops, c.in_ok-judge.was, c.in_err-ask.was))

pub window_of-requires : goal.window_of-requires
window_of-requires c =
    let q = c.args.self.now in
    let a = asked q.file.now q.release q.starts.now q.any_scene q.request q.background.now in
    sides-fit q.request (asked-right a c.args.target c.args.map c.judge.ensures.answer_is c.in_ok-judge.was c.ask.ensures c.in_ok-ask.was)

pub agree-requires-clause-chosen : goal.agree-requires-clause-chosen
agree-requires-clause-chosen c =
    table-chosen _ _ _ (accepted-file _ _ _ c.judge.ensures c.in_ok-judge.was) c.requires c.select-n.ensures

pub agree-requires-clause-n_value : goal.agree-requires-clause-n_value
agree-requires-clause-n_value c =
    let q = c.args.self.now in
    let a = asked q.file.now q.release q.starts.now q.any_scene q.request q.background.now in
    let right = asked-right a c.args.target c.args.map c.judge.ensures.answer_is c.in_ok-judge.was c.ask.ensures c.in_ok-ask.was in
    (c.select-n.ensures.count-is, edges_fit _ c.window_of.ensures right)

pub returns : goal.returns
returns c =
    let q = c.args.self.now in
    let a = asked q.file.now q.release q.starts.now q.any_scene q.request q.background.now in
    let selects = selects-table _ _ _ (accepted-file _ _ _ c.judge.ensures c.in_ok-judge.was) c.requires c.select-n.ensures in
    examined a c.args.target c.args.map c.judge.ensures.answer_is c.in_ok-judge.was c.ask.ensures c.in_ok-ask.was selects c.window_of.ensures c.agree.ensures
