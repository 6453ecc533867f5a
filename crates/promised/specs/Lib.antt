-- What each public function answers, in the words of the promises.
pub mod Promised
