-- The language of the classifier.
use Rattle.semantics.specs.Language.{Language}
use Rattle.semantics.specs.Classifier.{action_of}
use Rattle.semantics.specs.Environment.{enter, matches, accept, copy_of, gather}
use Rattle.semantics.specs.Calling.{call_calls, fail_leaves}

abbrev pub prolog : Language
prolog = record {
  action = action_of;
  enter = enter;
  matches = matches;
  accept = accept;
  copy_of = copy_of;
  gather = gather;
  call_calls = call_calls;
  fail_leaves = fail_leaves;
}
