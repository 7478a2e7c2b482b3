use Rattle.std.proofs.Common.{Option, Some, None, Result, Ok, Err, refl, ap, subst, arith}
use Rattle.flac_compare.specs.Streams.{ComparesInputs}
use Rattle.flac_compare.specs.declared.difference.Difference.{Difference}
use Rattle.flac_compare.specs.declared.difference.Unread.{Unread}
use Rattle.flac_compare.specs.declared.difference.Unread.TheVariants.{First, Second}
use Rattle.flac_cli.specs.Same.{lax_input}
use Rattle.flac_cli.proofs.Jobs.{at_most_one, not_both}
use Rattle.flac_cli.proofs.same.compare_files.Goals as goal

abbrev answer : Option Difference → Result (Option Difference) Unread
answer found = Ok found

pub returns-in-None : goal.returns-in-None
returns-in-None g c =
    let r = lax_input g.R.Source c.args.first.now in
    let s = lax_input g.S.Source c.args.second.now in
    record {
      status = omega arith;
      same = λ done told tell. c.in-Ok.ensures.same (ap answer c.in-None.is) told tell;
      reported = λ told tell served serve. record {
        result = Ok None;
        compares = subst (λ k. ComparesInputs r s (Ok k)) c.in-None.is (c.in-Ok.ensures.compares told tell);
        answer = (refl, refl, refl);
      };
    }

pub returns-in-Some : goal.returns-in-Some
returns-in-Some g c =
    let r = lax_input g.R.Source c.args.first.now in
    let s = lax_input g.S.Source c.args.second.now in
    let status = c.tell_difference.ensures.status in
    record {
      status = at_most_one _ status;
      same = λ done. not_both _ status done;
      reported = λ told tell served serve.
          let lines = c.tell_difference.ensures.told served serve in
          record {
            result = Ok (Some c.in-Some.difference);
            compares = subst (λ k. ComparesInputs r s (Ok k)) c.in-Some.is (c.in-Ok.ensures.compares told tell);
            answer = (status, lines.0, lines.1);
          };
    }

pub returns-in-First : goal.returns-in-First
returns-in-First g c =
    let r = lax_input g.R.Source c.args.first.now in
    let s = lax_input g.S.Source c.args.second.now in
    let status = c.refuse.ensures.status in
    record {
      status = at_most_one _ status;
      same = λ done. not_both _ status done;
      reported = λ told tell served serve. record {
        result = Err (First c.in-First.fault);
        compares = subst (λ k. ComparesInputs r s (Err k)) c.in-First.is (c.in-Err.ensures.compares told tell);
        answer = (status, refl, (c.refuse.ensures.line serve.0 serve.1).1);
      };
    }

pub returns-in-Second : goal.returns-in-Second
returns-in-Second g c =
    let r = lax_input g.R.Source c.args.first.now in
    let s = lax_input g.S.Source c.args.second.now in
    let status = c.refuse-in-Second.ensures.status in
    record {
      status = at_most_one _ status;
      same = λ done. not_both _ status done;
      reported = λ told tell served serve. record {
        result = Err (Second c.in-Second.fault);
        compares = subst (λ k. ComparesInputs r s (Err k)) c.in-Second.is (c.in-Err.ensures.compares told tell);
        answer = (status, refl, (c.refuse-in-Second.ensures.line serve.0 serve.1).1);
      };
    }
