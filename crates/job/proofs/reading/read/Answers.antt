use Rattle.std.proofs.Common.{◌≡◌, ℕ, List, length, IfOk, IfErr, Some, Ok, Err, Result, sym, refl, ap, ◌∙◌}
use Rattle.std.specs.Option.{option_map}
use Rattle.job.specs.declared.faults.Fault.{Fault}
use Rattle.job.specs.declared.jobs.Job.{Job}
use Rattle.job.specs.Contents.{Contents}
use Rattle.job.specs.Reading.{Out, got, fault, file_out, accepted}
use Rattle.job.specs.Resolved.{resolved, values_of}
use Rattle.job.specs.Jobs.{view}
use Rattle.job.specs.Outcomes.{Accepted, Refused, Outcome}
use Rattle.job.proofs.Laws.{Bytes}
use Rattle.job.proofs.Outs.{never}
use Rattle.job.proofs.Whole.{file_sound, file_full, file_no, no_file}
use Rattle.job.proofs.reading.read.Goals as goal

-- what was read, where the values are known
accept : (s : List ℕ) → Bytes s → (j : Job) (o : Out Contents) → o ≡ file_out s → option_map resolved (accepted o) ≡ Some (view j) → Accepted s j
accept s bs j (got c q) e v =
    let u = file_sound s c q bs (sym e) in
    record {
      job = c;
      fits = u.0;
      bytes = u.1;
      one = λ d f w. (let g : got d (length s) ≡ got c q = sym (file_full s d f w) ∙ sym e in cc);
      free = λ n k t. never (e ∙ no_file s n k t);
      said = ap accepted (sym e);
      values = cc;
    }
accept s bs j (fault n k) e v = cc

refuse : (s : List ℕ) → Bytes s → (f : Fault) → file_out s ≡ fault f.question f.place → Refused s f
refuse s bs f e = record {
  none = λ d w b. never (sym (file_full s d w b) ∙ e);
  first = file_no s f.question f.place bs e;
  one = λ q k t. (let g : fault q k ≡ fault f.question f.place = sym (no_file s q k t) ∙ e in ((cc), (cc)));
  said = ap accepted e;
}

outcome : (s : List ℕ) → Bytes s → (r : Result Job Fault) → IfOk r (λ j. values_of s ≡ Some (view j)) → IfErr r (λ f. file_out s ≡ fault f.question f.place) → Outcome s r
outcome s bs (Ok j) m n = accept s bs j (file_out s) refl m
outcome s bs (Err f) m n = refuse s bs f n

pub returns-clause-outcome : goal.returns-clause-outcome
returns-clause-outcome c = outcome c.args.file.now (λ i. (c.type_inv.file i).fits) c.scan.result c.scan.ensures.means c.scan.ensures.stops
