use Rattle.std.proofs.Common.{◌≡◌, ◌++◌, ◌∙◌, List, None, refl, ap, sym, subst, inl, arith}
use Rattle.flac_bits.specs.Bits.{bits_of}
use Rattle.flac_native.specs.Stream.{Piece}
use Rattle.flac_jobs.specs.Asks.{AsksStream, AsksDecode, AsksDecodeWave, asks_lax}
use Rattle.flac_cli.specs.Counted.{AsksTest, counts_line}
use Rattle.flac_cli.specs.Encoded.{asked_for, HasEncoded, HasBegun}
use Rattle.flac_cli.specs.Outcomes.{ReportsInput, input_reading}
use Rattle.flac_cli.specs.WaveRefusals.{CanBeKept, ReportsWaveEncoding}
use Rattle.flac_cli.specs.Waves.{asked_for_wave, HasEncodedWave, HasBegunWave, wave_in}
use Rattle.flac_cli.specs.Refusals.{CanBeEncoded}
use Rattle.flac_cli.specs.Named.{NamesWaveEncoding, NamesFault}
use Rattle.flac_cli.specs.Reports.{Serves, Reports, files_of, fault_line, path_of, line_text}
use Rattle.flac_cli.specs.Retagged.{HasRetagged}
use Rattle.flac_cli.specs.Samples.{all_samples}
use Rattle.flac_cli.specs.Streams.{IsStream, profile_of}
use Rattle.flac_cli.proofs.Jobs.{none_encoded, none_begun, none_accepted, none_refused, asked_is, rose, at_most_one, not_both, wave_asked_is, none_wave, none_kept, none_begun_wave, none_wave_refused}
use Rattle.flac_cli.proofs.Refused.{reported}
use Rattle.flac_cli.proofs.dispatch.run.Goals as goal

pub returns-in-Test : goal.returns-in-Test
returns-in-Test g c =
    let e = c.run_test.ensures in
    let is = c.in-Test.is in
    let none : asked_for c.args.task.now.job.now c.args.task.now.list.now ≡ None = ap (λ j. asked_for j c.args.task.now.list.now) is in
    let profile : c.profile_of.result ≡ profile_of (asks_lax c.args.task.now.job.now) = c.profile_of.ensures ∙ ap (λ j. profile_of (asks_lax j)) (sym is) in
    record {
      stream = λ asks done tells. subst (λ p. (parts : List Piece) × IsStream p parts (g.R.Source.coming c.args.source.now) (g.R.Source.after c.args.source.now)) profile (e.stream done tells);
      tested = λ asks done tells known. subst (λ p. (parts : List Piece) × IsStream p parts (g.R.Source.coming c.args.source.now) (g.R.Source.after c.args.source.now) × (g.O.Target.sent c.run_test.new.out ≡ g.O.Target.sent c.args.out.now ++ counts_line parts)) profile (e.tested done tells known);
      decoded = λ asks. absurd (subst AsksDecode is asks);
      encoded = λ done known sent. none_encoded _ none _ _ _;
      accepted = λ done known. none_accepted _ none _;
      begun = λ failed known sent. none_begun _ none _ _ _;
      refused = λ tells served told. none_refused _ none _ _ _ _ _;
      retagged = λ done known sent. subst (λ j. HasRetagged j (g.R.Source.coming c.args.source.now) (g.R.Source.after c.args.source.now) (bits_of (g.W.Target.sent c.args.target.now)) (bits_of (g.W.Target.sent c.args.target.now))) (sym is) tt;
      wave_encoded = λ done known sent. none_wave _ (ap (λ j. asked_for_wave j c.args.task.now.list.now) is) _ _ _;
      wave_accepted = λ done known. none_kept _ (ap (λ j. asked_for_wave j c.args.task.now.list.now) is) _;
      wave_begun = λ failed known sent. none_begun_wave _ (ap (λ j. asked_for_wave j c.args.task.now.list.now) is) _ _ _;
      wave_refused = λ tells served told. none_wave_refused _ (ap (λ j. asked_for_wave j c.args.task.now.list.now) is) _ _ _ _ _;
      wave_decoded = λ asks. absurd (subst AsksDecodeWave is asks);
      status = e.status;
      reported = λ tells told. subst (λ j. ReportsInput j (g.R.Source.coming c.args.source.now) (g.R.Source.after c.args.source.now) (Serves g.W.Target c.args.target.now c.args.target.now) (Serves g.O.Target c.args.out.now c.run_test.new.out) c.run_test.result (g.E.Target.sent c.args.err.now) (g.E.Target.sent c.run_test.new.err)) (sym is) (rw (← c.profile_of.ensures) (λ printed. e.reported tells printed told));
      named = λ failed known same. subst (λ j. NamesFault j (g.E.Target.sent c.args.err.now) (g.E.Target.sent c.run_test.new.err)) (sym is) tt;
    }

pub returns-in-Decode : goal.returns-in-Decode
returns-in-Decode g c =
    let e = c.run_decode.ensures in
    let is = c.in-Decode.is in
    let none : asked_for c.args.task.now.job.now c.args.task.now.list.now ≡ None = ap (λ j. asked_for j c.args.task.now.list.now) is in
    let profile : c.profile_of-in-Decode.result ≡ profile_of (asks_lax c.args.task.now.job.now) = c.profile_of-in-Decode.ensures ∙ ap (λ j. profile_of (asks_lax j)) (sym is) in
    record {
      stream = λ asks done tells. subst (λ p. (parts : List Piece) × IsStream p parts (g.R.Source.coming c.args.source.now) (g.R.Source.after c.args.source.now)) profile (e.stream done tells);
      tested = λ asks. absurd (subst AsksTest is asks);
      decoded = λ asks done tells known. subst (λ p. (parts : List Piece) × IsStream p parts (g.R.Source.coming c.args.source.now) (g.R.Source.after c.args.source.now) × (g.W.Target.sent c.run_decode.new.target ≡ g.W.Target.sent c.args.target.now ++ all_samples 0 parts)) profile (e.decoded done tells known);
      encoded = λ done known sent. none_encoded _ none _ _ _;
      accepted = λ done known. none_accepted _ none _;
      begun = λ failed known sent. none_begun _ none _ _ _;
      refused = λ tells served told. none_refused _ none _ _ _ _ _;
      retagged = λ done known sent. subst (λ j. HasRetagged j (g.R.Source.coming c.args.source.now) (g.R.Source.after c.args.source.now) (bits_of (g.W.Target.sent c.args.target.now)) (bits_of (g.W.Target.sent c.run_decode.new.target))) (sym is) tt;
      wave_encoded = λ done known sent. none_wave _ (ap (λ j. asked_for_wave j c.args.task.now.list.now) is) _ _ _;
      wave_accepted = λ done known. none_kept _ (ap (λ j. asked_for_wave j c.args.task.now.list.now) is) _;
      wave_begun = λ failed known sent. none_begun_wave _ (ap (λ j. asked_for_wave j c.args.task.now.list.now) is) _ _ _;
      wave_refused = λ tells served told. none_wave_refused _ (ap (λ j. asked_for_wave j c.args.task.now.list.now) is) _ _ _ _ _;
      wave_decoded = λ asks. absurd (subst AsksDecodeWave is asks);
      status = e.status;
      reported = λ tells told. subst (λ j. ReportsInput j (g.R.Source.coming c.args.source.now) (g.R.Source.after c.args.source.now) (Serves g.W.Target c.args.target.now c.run_decode.new.target) (Serves g.O.Target c.args.out.now c.args.out.now) c.run_decode.result (g.E.Target.sent c.args.err.now) (g.E.Target.sent c.run_decode.new.err)) (sym is) (rw (← c.profile_of-in-Decode.ensures) (λ served. e.reported tells served told));
      named = λ failed known same. subst (λ j. NamesFault j (g.E.Target.sent c.args.err.now) (g.E.Target.sent c.run_decode.new.err)) (sym is) (e.named failed known same);
    }

pub returns-in-List : goal.returns-in-List
returns-in-List g c =
    let e = c.run_list.ensures in
    let is = c.in-List.is in
    let none : asked_for c.args.task.now.job.now c.args.task.now.list.now ≡ None = ap (λ j. asked_for j c.args.task.now.list.now) is in
    let profile : c.profile_of-in-List.result ≡ profile_of (asks_lax c.args.task.now.job.now) = c.profile_of-in-List.ensures ∙ ap (λ j. profile_of (asks_lax j)) (sym is) in
    record {
      stream = λ asks done tells. subst (λ p. (parts : List Piece) × IsStream p parts (g.R.Source.coming c.args.source.now) (g.R.Source.after c.args.source.now)) profile (e.stream done tells);
      tested = λ asks. absurd (subst AsksTest is asks);
      decoded = λ asks. absurd (subst AsksDecode is asks);
      encoded = λ done known sent. none_encoded _ none _ _ _;
      accepted = λ done known. none_accepted _ none _;
      begun = λ failed known sent. none_begun _ none _ _ _;
      refused = λ tells served told. none_refused _ none _ _ _ _ _;
      retagged = λ done known sent. subst (λ j. HasRetagged j (g.R.Source.coming c.args.source.now) (g.R.Source.after c.args.source.now) (bits_of (g.W.Target.sent c.args.target.now)) (bits_of (g.W.Target.sent c.args.target.now))) (sym is) tt;
      wave_encoded = λ done known sent. none_wave _ (ap (λ j. asked_for_wave j c.args.task.now.list.now) is) _ _ _;
      wave_accepted = λ done known. none_kept _ (ap (λ j. asked_for_wave j c.args.task.now.list.now) is) _;
      wave_begun = λ failed known sent. none_begun_wave _ (ap (λ j. asked_for_wave j c.args.task.now.list.now) is) _ _ _;
      wave_refused = λ tells served told. none_wave_refused _ (ap (λ j. asked_for_wave j c.args.task.now.list.now) is) _ _ _ _ _;
      wave_decoded = λ asks. absurd (subst AsksDecodeWave is asks);
      status = e.status;
      reported = λ tells told. subst (λ j. ReportsInput j (g.R.Source.coming c.args.source.now) (g.R.Source.after c.args.source.now) (Serves g.W.Target c.args.target.now c.args.target.now) (Serves g.O.Target c.args.out.now c.run_list.new.out) c.run_list.result (g.E.Target.sent c.args.err.now) (g.E.Target.sent c.run_list.new.err)) (sym is) (rw (← c.profile_of-in-List.ensures) (e.reported tells told));
      named = λ failed known same. subst (λ j. NamesFault j (g.E.Target.sent c.args.err.now) (g.E.Target.sent c.run_list.new.err)) (sym is) tt;
    }

pub returns-in-Retag : goal.returns-in-Retag
returns-in-Retag g c =
    let e = c.run_retag.ensures in
    let is = c.in-Retag.is in
    let none : asked_for c.args.task.now.job.now c.args.task.now.list.now ≡ None = ap (λ j. asked_for j c.args.task.now.list.now) is in
    record {
      stream = λ asks. absurd (subst AsksStream is asks);
      tested = λ asks. absurd (subst AsksTest is asks);
      decoded = λ asks. absurd (subst AsksDecode is asks);
      encoded = λ done known sent. none_encoded _ none _ _ _;
      accepted = λ done known. none_accepted _ none _;
      begun = λ failed known sent. none_begun _ none _ _ _;
      refused = λ tells served told. none_refused _ none _ _ _ _ _;
      retagged = λ done known sent. subst (λ j. HasRetagged j (g.R.Source.coming c.args.source.now) (g.R.Source.after c.args.source.now) (bits_of (g.W.Target.sent c.args.target.now)) (bits_of (g.W.Target.sent c.run_retag.new.target))) (sym is) (rw (← c.as_slice-in-Retag.ensures.value) (e.retagged done known sent));
      wave_encoded = λ done known sent. none_wave _ (ap (λ j. asked_for_wave j c.args.task.now.list.now) is) _ _ _;
      wave_accepted = λ done known. none_kept _ (ap (λ j. asked_for_wave j c.args.task.now.list.now) is) _;
      wave_begun = λ failed known sent. none_begun_wave _ (ap (λ j. asked_for_wave j c.args.task.now.list.now) is) _ _ _;
      wave_refused = λ tells served told. none_wave_refused _ (ap (λ j. asked_for_wave j c.args.task.now.list.now) is) _ _ _ _ _;
      wave_decoded = λ asks. absurd (subst AsksDecodeWave is asks);
      status = e.status;
      reported = λ tells told. subst (λ j. ReportsInput j (g.R.Source.coming c.args.source.now) (g.R.Source.after c.args.source.now) (Serves g.W.Target c.args.target.now c.run_retag.new.target) (Serves g.O.Target c.args.out.now c.args.out.now) c.run_retag.result (g.E.Target.sent c.args.err.now) (g.E.Target.sent c.run_retag.new.err)) (sym is) (rw (← c.as_slice-in-Retag.ensures.value) (λ served. e.reported tells served told));
      named = λ failed known same. subst (λ j. NamesFault j (g.E.Target.sent c.args.err.now) (g.E.Target.sent c.run_retag.new.err)) (sym is) (e.named failed known same);
    }

pub returns-in-Ok : goal.returns-in-Ok
returns-in-Ok g c =
    let e = c.in-Ok.ensures in
    let is = c.in-Encode.is in
    let asked = asked_is c.args.task.now.job.now c.args.task.now.list.now c.profile_of-in-Encode.result c.as_slice.result.now is c.profile_of-in-Encode.ensures c.as_slice.ensures.value in
    record {
      stream = λ asks. absurd (subst AsksStream is asks);
      tested = λ asks. absurd (subst AsksTest is asks);
      decoded = λ asks. absurd (subst AsksDecode is asks);
      encoded = λ done known sent. subst (λ o. HasEncoded o (g.R.Source.coming c.args.source.now) (bits_of (g.W.Target.sent c.args.target.now)) (bits_of (g.W.Target.sent c.encode_raw.new.target))) (sym asked) (e.written known sent);
      accepted = λ done known. subst (λ o. CanBeEncoded o (g.R.Source.coming c.args.source.now)) (sym asked) (e.accepted known);
      begun = λ failed known sent. not_both _ failed refl;
      refused = λ tells served told. subst (λ o. Reports o (g.R.Source.coming c.args.source.now) (files_of c.args.task.now.job.now) 0 (g.E.Target.sent c.args.err.now) (g.E.Target.sent c.args.err.now)) (sym asked) (inl (None, e.accepted tells.0, (refl, refl)));
      retagged = λ done known sent. subst (λ j. HasRetagged j (g.R.Source.coming c.args.source.now) (g.R.Source.after c.args.source.now) (bits_of (g.W.Target.sent c.args.target.now)) (bits_of (g.W.Target.sent c.encode_raw.new.target))) (sym is) tt;
      wave_encoded = λ done known sent. none_wave _ (ap (λ j. asked_for_wave j c.args.task.now.list.now) is) _ _ _;
      wave_accepted = λ done known. none_kept _ (ap (λ j. asked_for_wave j c.args.task.now.list.now) is) _;
      wave_begun = λ failed known sent. none_begun_wave _ (ap (λ j. asked_for_wave j c.args.task.now.list.now) is) _ _ _;
      wave_refused = λ tells served told. none_wave_refused _ (ap (λ j. asked_for_wave j c.args.task.now.list.now) is) _ _ _ _ _;
      wave_decoded = λ asks. absurd (subst AsksDecodeWave is asks);
      status = omega arith;
      reported = λ tells told. subst (λ j. ReportsInput j (g.R.Source.coming c.args.source.now) (g.R.Source.after c.args.source.now) (Serves g.W.Target c.args.target.now c.encode_raw.new.target) (Serves g.O.Target c.args.out.now c.args.out.now) 0 (g.E.Target.sent c.args.err.now) (g.E.Target.sent c.args.err.now)) (sym is) tt;
      named = λ failed known same. not_both _ failed refl;
    }

pub returns-in-Err : goal.returns-in-Err
returns-in-Err g c =
    let e = c.in-Err.ensures in
    let failed = c.refuse_encoding.ensures in
    let is = c.in-Encode.is in
    let asked = asked_is c.args.task.now.job.now c.args.task.now.list.now c.profile_of-in-Encode.result c.as_slice.result.now is c.profile_of-in-Encode.ensures c.as_slice.ensures.value in
    record {
      stream = λ asks. absurd (subst AsksStream is asks);
      tested = λ asks. absurd (subst AsksTest is asks);
      decoded = λ asks. absurd (subst AsksDecode is asks);
      encoded = λ done known sent. not_both _ failed.status done;
      accepted = λ done known. not_both _ failed.status done;
      begun = λ failed known sent. subst (λ o. HasBegun o (g.R.Source.coming c.args.source.now) (bits_of (g.W.Target.sent c.args.target.now)) (bits_of (g.W.Target.sent c.encode_raw.new.target))) (sym asked) (e.begun known sent);
      refused = λ tells served told. subst (λ o. Reports o (g.R.Source.coming c.args.source.now) (files_of c.args.task.now.job.now) c.refuse_encoding.result (g.E.Target.sent c.args.err.now) (g.E.Target.sent c.refuse_encoding.new.err)) (sym asked)
          (reported _ (g.R.Source.coming c.args.source.now) _ c.in-Err.refusal _ _ _ failed.status (failed.line told.0 told.1) (λ is. rose _ _ (e.failed is served.0) served.1) (e.refused tells.0 tells.2));
      retagged = λ done known sent. subst (λ j. HasRetagged j (g.R.Source.coming c.args.source.now) (g.R.Source.after c.args.source.now) (bits_of (g.W.Target.sent c.args.target.now)) (bits_of (g.W.Target.sent c.encode_raw.new.target))) (sym is) tt;
      wave_encoded = λ done known sent. none_wave _ (ap (λ j. asked_for_wave j c.args.task.now.list.now) is) _ _ _;
      wave_accepted = λ done known. none_kept _ (ap (λ j. asked_for_wave j c.args.task.now.list.now) is) _;
      wave_begun = λ failed known sent. none_begun_wave _ (ap (λ j. asked_for_wave j c.args.task.now.list.now) is) _ _ _;
      wave_refused = λ tells served told. none_wave_refused _ (ap (λ j. asked_for_wave j c.args.task.now.list.now) is) _ _ _ _ _;
      wave_decoded = λ asks. absurd (subst AsksDecodeWave is asks);
      status = at_most_one _ failed.status;
      reported = λ tells told. subst (λ j. ReportsInput j (g.R.Source.coming c.args.source.now) (g.R.Source.after c.args.source.now) (Serves g.W.Target c.args.target.now c.encode_raw.new.target) (Serves g.O.Target c.args.out.now c.args.out.now) c.refuse_encoding.result (g.E.Target.sent c.args.err.now) (g.E.Target.sent c.refuse_encoding.new.err)) (sym is) tt;
      named = λ one known same. subst (λ j. NamesFault j (g.E.Target.sent c.args.err.now) (g.E.Target.sent c.refuse_encoding.new.err)) (sym is) (c.in-Err.refusal, subst (λ j. g.E.Target.sent c.refuse_encoding.new.err ≡ g.E.Target.sent c.args.err.now ++ fault_line (path_of (files_of j) c.in-Err.refusal) (line_text c.in-Err.refusal)) is (failed.line known same));
    }

pub returns-in-DecodeWave : goal.returns-in-DecodeWave
returns-in-DecodeWave g c =
    let e = c.run_decode_wave.ensures in
    let is = c.in-DecodeWave.is in
    let none : asked_for c.args.task.now.job.now c.args.task.now.list.now ≡ None = ap (λ j. asked_for j c.args.task.now.list.now) is in
    let profile : c.profile_of-in-DecodeWave.result ≡ profile_of (asks_lax c.args.task.now.job.now) = c.profile_of-in-DecodeWave.ensures ∙ ap (λ j. profile_of (asks_lax j)) (sym is) in
    record {
      stream = λ asks. absurd (subst AsksStream is asks);
      tested = λ asks. absurd (subst AsksTest is asks);
      decoded = λ asks. absurd (subst AsksDecode is asks);
      encoded = λ done known sent. none_encoded _ none _ _ _;
      accepted = λ done known. none_accepted _ none _;
      begun = λ failed known sent. none_begun _ none _ _ _;
      refused = λ tells served told. none_refused _ none _ _ _ _ _;
      retagged = λ done known sent. subst (λ j. HasRetagged j (g.R.Source.coming c.args.source.now) (g.R.Source.after c.args.source.now) (bits_of (g.W.Target.sent c.args.target.now)) (bits_of (g.W.Target.sent c.run_decode_wave.new.target))) (sym is) tt;
      wave_encoded = λ done known sent. none_wave _ (ap (λ j. asked_for_wave j c.args.task.now.list.now) is) _ _ _;
      wave_accepted = λ done known. none_kept _ (ap (λ j. asked_for_wave j c.args.task.now.list.now) is) _;
      wave_begun = λ failed known sent. none_begun_wave _ (ap (λ j. asked_for_wave j c.args.task.now.list.now) is) _ _ _;
      wave_refused = λ tells served told. none_wave_refused _ (ap (λ j. asked_for_wave j c.args.task.now.list.now) is) _ _ _ _ _;
      wave_decoded = λ asks done tells known. subst (λ p. (parts : List Piece) × (input_reading p (g.R.Source.coming c.args.source.now) (g.R.Source.after c.args.source.now)).whole parts × (g.W.Target.sent c.run_decode_wave.new.target ≡ g.W.Target.sent c.args.target.now ++ wave_in parts)) profile (e.decoded done tells known);
      status = e.status;
      reported = λ tells told. subst (λ j. ReportsInput j (g.R.Source.coming c.args.source.now) (g.R.Source.after c.args.source.now) (Serves g.W.Target c.args.target.now c.run_decode_wave.new.target) (Serves g.O.Target c.args.out.now c.args.out.now) c.run_decode_wave.result (g.E.Target.sent c.args.err.now) (g.E.Target.sent c.run_decode_wave.new.err)) (sym is) (rw (← c.profile_of-in-DecodeWave.ensures) (λ served. e.reported tells served told));
      named = λ failed known same. subst (λ j. NamesFault j (g.E.Target.sent c.args.err.now) (g.E.Target.sent c.run_decode_wave.new.err)) (sym is) (e.named failed known same);
    }

pub returns-in-EncodeWave : goal.returns-in-EncodeWave
returns-in-EncodeWave g c =
    let e = c.run_encode_wave.ensures in
    let is = c.in-EncodeWave.is in
    let none : asked_for c.args.task.now.job.now c.args.task.now.list.now ≡ None = ap (λ j. asked_for j c.args.task.now.list.now) is in
    let asked = wave_asked_is c.args.task.now.job.now c.args.task.now.list.now c.profile_of-profile.result c.as_slice-in-EncodeWave.result.now is c.profile_of-profile.ensures c.as_slice-in-EncodeWave.ensures.value in
    record {
      stream = λ asks. absurd (subst AsksStream is asks);
      tested = λ asks. absurd (subst AsksTest is asks);
      decoded = λ asks. absurd (subst AsksDecode is asks);
      encoded = λ done known sent. none_encoded _ none _ _ _;
      accepted = λ done known. none_accepted _ none _;
      begun = λ failed known sent. none_begun _ none _ _ _;
      refused = λ tells served told. none_refused _ none _ _ _ _ _;
      retagged = λ done known sent. subst (λ j. HasRetagged j (g.R.Source.coming c.args.source.now) (g.R.Source.after c.args.source.now) (bits_of (g.W.Target.sent c.args.target.now)) (bits_of (g.W.Target.sent c.run_encode_wave.new.target))) (sym is) tt;
      wave_encoded = λ done known sent. subst (λ o. HasEncodedWave o (g.R.Source.coming c.args.source.now) (bits_of (g.W.Target.sent c.args.target.now)) (bits_of (g.W.Target.sent c.run_encode_wave.new.target))) (sym asked) (e.encoded done known sent);
      wave_accepted = λ done known. subst (λ o. CanBeKept o (g.R.Source.coming c.args.source.now)) (sym asked) (e.accepted done known);
      wave_begun = λ failed known sent. subst (λ o. HasBegunWave o (g.R.Source.coming c.args.source.now) (bits_of (g.W.Target.sent c.args.target.now)) (bits_of (g.W.Target.sent c.run_encode_wave.new.target))) (sym asked) (e.begun failed known sent);
      wave_refused = λ tells served told. subst (λ o. ReportsWaveEncoding o (g.R.Source.coming c.args.source.now) (files_of c.args.task.now.job.now) c.run_encode_wave.result (g.E.Target.sent c.args.err.now) (g.E.Target.sent c.run_encode_wave.new.err)) (sym asked) (e.refused tells served told);
      wave_decoded = λ asks. absurd (subst AsksDecodeWave is asks);
      status = e.status;
      reported = λ tells told. subst (λ j. ReportsInput j (g.R.Source.coming c.args.source.now) (g.R.Source.after c.args.source.now) (Serves g.W.Target c.args.target.now c.run_encode_wave.new.target) (Serves g.O.Target c.args.out.now c.args.out.now) c.run_encode_wave.result (g.E.Target.sent c.args.err.now) (g.E.Target.sent c.run_encode_wave.new.err)) (sym is) tt;
      named = λ failed known same. subst (λ j. NamesFault j (g.E.Target.sent c.args.err.now) (g.E.Target.sent c.run_encode_wave.new.err)) (sym is) (subst (λ j. NamesWaveEncoding (files_of j) (g.E.Target.sent c.args.err.now) (g.E.Target.sent c.run_encode_wave.new.err)) is (e.named failed known same));
    }
